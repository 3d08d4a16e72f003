-- A seat that leaves: its view joins that of seat 0.
use Rattle.std.proofs.Common.{◌≡◌, ◌≢◌, ⊎_elim, ℕ, ◌+◌, ◌<◌, ◌≤◌, List, length, set, refl, ap, sym, ◌∙◌, subst, arith}
use Rattle.std.proofs.lemmas.List.{length-set, get_or-set_same, get_or-set_other}
use Rattle.std.proofs.lemmas.Bool.{cases_eq}
use Rattle.plain_protocol.specs.plain_state.declared.slot.SlotId.{SlotId}
use Rattle.plain_protocol.specs.plain_state.Lists.{cell_times}
use Rattle.plain_protocol.specs.plain_state.State.{Plain, PlainSeat, slot_at}
use Rattle.plain_protocol.specs.Laws.{KeptByLeave}
use Rattle.directory_law.specs.Payloads.{Text}
use Rattle.directory_law.specs.Views.{View, gone, view_at, rope, joined, times_of, total, fresh, keeps, KeptIn, In}
use Rattle.directory_law.specs.Cells.{Area}
use Rattle.directory_law.specs.Learnt.{Built, Learnt}
use Rattle.directory_law.specs.Law.{DirectoryLaw}
use Rattle.directory_law.proofs.Kit.{total_set}
use Rattle.directory_law.proofs.Notes.{none_of, append_of, each_append, in_left, in_right}
use Rattle.directory_law.proofs.Quiet.{Quiet, same_quiet, law_quiet}
use Rattle.directory_law.proofs.Turns.{Turned, learnt_turned, law_turned}

total_two : (f : View → ℕ) (vs : List View) (j : ℕ) (v u : View) → j < length vs → ¬ (j ≡ 0)
    → f v + f u ≡ f (view_at vs 0) + f (view_at vs j) → total f (set (set vs 0 v) j u) ≡ total f vs
total_two f vs j v u inside other e =
    let l = length-set vs 0 v in
    let a = total_set f vs 0 v (omega arith) in
    let b = total_set f (set vs 0 v) j u (omega arith) in
    let g = ap f (get_or-set_other vs 0 j v gone other) in omega arith

-- a leave changes seats alone
pub seats_quiet : (z : Area) (p : Plain) (ss : List PlainSeat) → Quiet z p (record p { seats = ss })
seats_quiet z p ss = record {
  cells = λ d h. refl;
  granted = omega arith;
  slots = λ s. same_quiet (cell_times s p.weak_cells) (slot_at p s);
}

module _ (z : Area) (p : Plain) (views : List View) (j : ℕ) (inside : j < length views)
    (other : ¬ (j ≡ 0)) (law : DirectoryLaw z p views) where
  root : View
  root = joined (view_at views 0) (view_at views j)

  after : List View
  after = set (set views 0 root) j gone

  counted : (s : SlotId) (l : ℕ) → fresh after s l ≡ fresh views s l
  unfolding root after
  counted s l =
      total_two (λ (v : View). times_of s l v.noted) views j root gone inside other
      (let a = append_of s l (view_at views 0).noted (view_at views j).noted in
      let b = none_of s l in omega arith)

  counted_kept : (s : SlotId) (l : ℕ) → keeps after s l ≡ keeps views s l
  unfolding root after
  counted_kept s l =
      total_two (λ (v : View). times_of s l v.kept) views j root gone inside other
      (let a = append_of s l (view_at views 0).kept (view_at views j).kept in let b = none_of s l in
      omega arith)

  at_root : view_at after 0 ≡ root
  unfolding root after
  at_root =
      get_or-set_other (set views 0 root) j 0 gone gone (λ e. other (sym e))
      ∙ get_or-set_same views 0 root gone (omega arith)

  at_left : view_at after j ≡ gone
  unfolding root after
  at_left = let l = length-set views 0 root in
      get_or-set_same (set views 0 root) j gone gone (omega arith)

  at_other : (m : ℕ) → m ≢ j → m ≢ 0 → view_at after m ≡ view_at views m
  unfolding root after
  at_other m not_j not_0 =
      get_or-set_other (set views 0 root) j m gone gone not_j
      ∙ get_or-set_other views 0 m root gone not_0

  at_seat : (P : View → Type 0) → P root → P gone → ((m : ℕ) → P (view_at views m)) → (m : ℕ)
      → P (view_at after m)
  at_seat P a b old m =
      ⊎_elim
      (λ (e : m ≡ j). subst P (sym (ap (λ (k : ℕ). view_at after k) e ∙ at_left)) b)
      (λ (not_j : m ≢ j).
      ⊎_elim
      (λ (e : m ≡ 0). subst P (sym (ap (λ (k : ℕ). view_at after k) e ∙ at_root)) a)
      (λ (not_0 : m ≢ 0). subst P (sym (at_other m not_j not_0)) (old m))
      (cases_eq m 0))
      (cases_eq m j)

  at_kept : (s : SlotId) (l : ℕ) (t : Text) → In (rope s l t) root.kept → KeptIn after s l t
  at_kept s l t i = (0, subst (λ (v : View). In (rope s l t) v.kept) (sym at_root) i)

  moves : (s : SlotId) (l : ℕ) (t : Text) → KeptIn views s l t → KeptIn after s l t
  unfolding root
  moves s l t k =
      ⊎_elim
      (λ (e : k.0 ≡ j). at_kept s l t (in_right (rope s l t) (view_at views 0).kept
      (view_at views j).kept (subst (λ (m : ℕ). In (rope s l t) (view_at views m).kept) e k.1)))
      (λ (not_j : k.0 ≢ j).
      ⊎_elim
      (λ (e : k.0 ≡ 0). at_kept s l t (in_left (rope s l t) (view_at views 0).kept
      (view_at views j).kept (subst (λ (m : ℕ). In (rope s l t) (view_at views m).kept) e k.1)))
      (λ (not_0 : k.0 ≢ 0). (
        k.0,
        subst (λ (v : View). In (rope s l t) v.kept)
            (sym (at_other k.0 not_j not_0)) k.1,
      ))
      (cases_eq k.0 0))
      (cases_eq k.0 j)

  turned : Turned views after
  unfolding root after
  turned = record {
    fewer = λ s l. let e = counted s l in omega arith;
    keeps_same = counted_kept;
    kept = moves;
    used = let e = total_two (λ (v : View). v.used) views j root gone inside other (omega arith) in
        omega arith;
  }

  learnt_root : Learnt z p after root
  unfolding root
  learnt_root =
      let l = learnt_turned z p views after turned law (view_at views 0) (law.learnt 0) in
      record {
        noted = each_append (Built p) (view_at views 0).noted (view_at views j).noted l.noted
            (law.learnt j).noted;
        seen = l.seen;
        ended = l.ended;
        ran = l.ran;
        led = l.led;
      }

  pub law_left : DirectoryLaw z p
      (set (set views 0 (joined (view_at views 0) (view_at views j))) j gone)
  unfolding root after
  law_left =
      law_turned z p views after turned law
      (λ s live. record {
        stage = live.stage;
        mark = live.mark;
        head = live.head;
        bound =
            sym (counted s (slot_at p s).life) ∙ live.bound;
      })
      (let e = total_two (λ (v : View). v.quota) views j root gone inside other (omega arith) in
      let f = law.quotas in omega arith)
      (at_seat (λ v. v.used ≤ v.quota) (let a = law.quota 0 in let b = law.quota j in omega arith)
      (omega arith) law.quota)
      (at_seat (Learnt z p after) learnt_root
      (record { noted = tt; seen = tt; ended = tt; ran = tt; led = tt })
      (λ m. learnt_turned z p views after turned law (view_at views m) (law.learnt m)))

pub leave_keeps : (z : Area) → KeptByLeave (DirectoryLaw z) joined gone
leave_keeps z p q j found views meets does =
    let count = meets.count in
    let inside = does.1.2 in
    let after = set (set views 0 (joined (view_at views 0) (view_at views j))) j gone in
    let left = law_left z p views j (omega arith) does.1.1 meets.law in
    subst (λ (x : Plain). DirectoryLaw z x after) (sym does.1.8)
    (law_quiet z p _ (seats_quiet z p _) meets.lawful after left)
