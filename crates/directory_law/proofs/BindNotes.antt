-- The seat that binds a head keeps its text and notes it no more.
use Rattle.std.proofs.Common.{◌≡◌, ◌≢◌, inl, inr, ⊎_elim, ℕ, ◌+◌, ◌<◌, ◌≤◌, List, ◌∷◌, length, set, refl, sym, subst, arith}
use Rattle.std.specs.Prelude.{Option, None}
use Rattle.std.proofs.lemmas.List.{get_or-set_same}
use Rattle.plain_protocol.specs.plain_state.declared.slot.SlotId.{SlotId}
use Rattle.plain_protocol.specs.plain_state.declared.slot.Stage.TheVariants.{Live}
use Rattle.plain_protocol.specs.plain_state.State.{Plain, PlainSeat, slot_at, stage_at}
use Rattle.plain_protocol.specs.plain_state.Lawful.{Lawful}
use Rattle.directory_law.specs.Payloads.{Text, IsText}
use Rattle.directory_law.specs.Views.{View, gone, view_at, rope, one_of, times_of, fresh, keeps, KeptIn, In, without}
use Rattle.directory_law.specs.Cells.{Area, cell, on}
use Rattle.directory_law.specs.Learnt.{Built, Learnt}
use Rattle.directory_law.specs.Law.{DirectoryLaw}
use Rattle.directory_law.proofs.Kit.{cases_id, total_set, total_at, at_view, cases_pair}
use Rattle.directory_law.proofs.Notes.{cons_of, one_same, one_other, one_later, without_none, without_other, without_fewer, each_without, each_in, in_times}
use Rattle.directory_law.proofs.Kept.{kept_set}
use Rattle.directory_law.proofs.Binding.{moved, Puts, Rebound, learnt_bind, law_bound}
use Rattle.directory_law.proofs.Walks.{Passed}

-- s is noted by seat n with its text
module _ (z : Area) (p : Plain) (s : SlotId) (text : Text) (views : List View) (n : ℕ)
    (here : n < length views) (law : DirectoryLaw z p views)
    (noted : In (rope s (slot_at p s).life text) (view_at views n).noted)
    (spare : (view_at views n).used < (view_at views n).quota) where
  w : View
  w = record (view_at views n) {
    noted = without s (slot_at p s).life (view_at views n).noted;
    kept = rope s (slot_at p s).life text ∷ (view_at views n).kept;
    used = (view_at views n).used + 1;
  }

  after : List View
  after = set views n w

  counted : (x : SlotId) (l : ℕ)
      → fresh after x l + times_of x l (view_at views n).noted ≡ fresh views x l + times_of x l
      (without s (slot_at p s).life (view_at views n).noted)
  unfolding after w
  counted x l = total_set (λ (v : View). times_of x l v.noted) views n w here

  counted_kept : (x : SlotId) (l : ℕ)
      → keeps after x l ≡ keeps views x l + one_of x l (rope s (slot_at p s).life text)
  unfolding after w
  counted_kept x l =
      let e = total_set (λ (v : View). times_of x l v.kept) views n w here in
      let c = cons_of x l (rope s (slot_at p s).life text) (view_at views n).kept in omega arith

  fewer : (x : SlotId) (l : ℕ) → fresh after x l ≤ fresh views x l
  fewer x l =
      let e = counted x l in
      let d = without_fewer s (slot_at p s).life x l (view_at views n).noted in omega arith

  fresh_other : (x : SlotId) (l : ℕ) → ((x ≡ s) × (l ≡ (slot_at p s).life) → ⊥)
      → fresh after x l ≡ fresh views x l
  fresh_other x l differs =
      let e = counted x l in
      let d = without_other s (slot_at p s).life x l (view_at views n).noted differs in omega arith

  kept_other : (x : SlotId) (l : ℕ) → ((x ≡ s) × (l ≡ (slot_at p s).life) → ⊥)
      → keeps after x l ≡ keeps views x l
  kept_other x l differs =
      let c = counted_kept x l in
      let o : one_of x l (rope s (slot_at p s).life text) ≡ 0 = ⊎_elim
      (λ (e : s ≡ x). one_later x l (rope s (slot_at p s).life text)
      (λ f. differs (sym e, sym f)))
      (λ (ne : s ≢ x). one_other x l (rope s (slot_at p s).life text) ne)
      (cases_id s x) in omega arith

  count_s : 0 < times_of s (slot_at p s).life (view_at views n).noted
  count_s = in_times s (slot_at p s).life (rope s (slot_at p s).life text) (view_at views n).noted
      refl refl noted

  none_fresh : fresh after s (slot_at p s).life ≡ 0
  none_fresh =
      let e = counted s (slot_at p s).life in
      let d = without_none s (slot_at p s).life (view_at views n).noted in
      let a = count_s in let o = law.once s (slot_at p s).life in omega arith

  was_fresh : 0 < fresh views s (slot_at p s).life
  was_fresh =
      let a = count_s in
      let b = total_at (λ (v : View). times_of s (slot_at p s).life v.noted) views n here in
      omega arith

  -- each life is noted or kept as often as before, or less
  sum_here : fresh after s (slot_at p s).life + keeps after s (slot_at p s).life ≤ fresh views s
      (slot_at p s).life + keeps views s (slot_at p s).life
  sum_here =
      let c = counted_kept s (slot_at p s).life in
      let o = one_same s (slot_at p s).life (rope s (slot_at p s).life text) refl refl in
      let f = none_fresh in let g = was_fresh in omega arith

  sums : (x : SlotId) (l : ℕ) → fresh after x l + keeps after x l ≤ fresh views x l + keeps views x
      l
  sums x l =
      ⊎_elim
      (λ (b : (x ≡ s) × (l ≡ (slot_at p s).life)).
      subst (λ (y : SlotId). fresh after y l + keeps after y l ≤ fresh views y l + keeps views y l)
      (sym b.0)
      (subst (λ (y : ℕ). fresh after s y + keeps after s y ≤ fresh views s y + keeps views s y)
      (sym b.1) sum_here))
      (λ (differs : (x ≡ s) × (l ≡ (slot_at p s).life) → ⊥). let a = fresh_other x l differs in
      let b = kept_other x l differs in omega arith)
      (cases_pair x s l (slot_at p s).life)

  kept_on : (x : SlotId) (l : ℕ) (t : Text) → KeptIn views x l t → KeptIn after x l t
  unfolding after w
  kept_on x l t k = kept_set views n w x l t here (λ e i. inr i) k

  new_kept : KeptIn after s (slot_at p s).life text
  unfolding after w
  new_kept = (
    n,
    subst (λ (v : View). In (rope s (slot_at p s).life text) v.kept)
        (sym (get_or-set_same views n w gone here)) (inl refl),
  )

  rebound : Rebound p s text views after
  unfolding after w
  rebound = record {
    fewer = fewer;
    fresh_other = fresh_other;
    keeps_other = kept_other;
    sums = sums;
    kept = kept_on;
    new = new_kept;
    used = let e = total_set (λ (v : View). v.used) views n w here in omega arith;
    quotas = let e = total_set (λ (v : View). v.quota) views n w here in omega arith;
    quota = at_view views n w (λ v. v.used ≤ v.quota) here (omega arith) (λ k ne. law.quota k);
  }

  pub law_kept : (ss : List PlainSeat) (cs : List (Option SlotId)) (m : ℕ) → Lawful p
      → 0 < z.cells → Puts z p (moved p ss cs) (on z text m) s → cell z p (on z text m) ≡ None
      → Passed z p views text m → IsText text → stage_at p s ≡ Live
      → DirectoryLaw z (moved p ss cs) (set views n (record (view_at views n) {
        noted = without s (slot_at p s).life (view_at views n).noted;
        kept = rope s (slot_at p s).life text ∷ (view_at views n).kept;
        used = (view_at views n).used + 1;
      }))
  unfolding after w
  law_kept ss cs m lawful some_cells puts null passed is_text live =
      let built = (each_in (Built p) (rope s (slot_at p s).life text) (view_at views n).noted noted
      (law.learnt n).noted).1 refl live in
      let notes = without s (slot_at p s).life (view_at views n).noted in
      let built_notes = each_without (Built p) s (slot_at p s).life (view_at views n).noted
      (law.learnt n).noted in
      let learnt = learnt_bind z p ss cs s m text views after rebound lawful law some_cells puts
      null passed is_text live built in
      law_bound z p ss cs s m text views after rebound lawful law some_cells puts null passed
      is_text live built
      (at_view views n w (Learnt z (moved p ss cs) after) here
      (let l = learnt (view_at views n) (law.learnt n) notes built_notes in
      record { noted = l.noted; seen = l.seen; ended = l.ended; ran = l.ran; led = l.led })
      (λ k ne. learnt (view_at views k) (law.learnt k) (view_at views k).noted
      (law.learnt k).noted))
