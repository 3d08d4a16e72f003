-- The seat that makes a slot notes it.
use Rattle.std.proofs.Common.{◌≡◌, ◌≢◌, ⊎_elim, ℕ, ◌+◌, ◌<◌, ◌≤◌, List, [], ◌∷◌, length, set, refl, sym, arith}
use Rattle.std.proofs.lemmas.Bool.{cases_lt}
use Rattle.plain_protocol.specs.plain_state.declared.slot.SlotId.{SlotId}
use Rattle.plain_protocol.specs.plain_state.declared.slot.Stage.TheVariants.{Blank}
use Rattle.plain_protocol.specs.plain_state.State.{Plain, PlainSeat, slot_at, stage_at}
use Rattle.plain_protocol.specs.plain_state.Lawful.{Lawful}
use Rattle.directory_law.specs.Payloads.{IsOwn}
use Rattle.directory_law.specs.Views.{Rope, View, view_at, rope, one_of, times_of, fresh}
use Rattle.directory_law.specs.Cells.{Area}
use Rattle.directory_law.specs.Learnt.{Learnt}
use Rattle.directory_law.specs.Law.{DirectoryLaw}
use Rattle.directory_law.proofs.Kit.{cases_id, total_set, at_view}
use Rattle.directory_law.proofs.Notes.{cons_of, one_same, one_other, one_later}
use Rattle.directory_law.proofs.Kept.{kept_set}
use Rattle.directory_law.proofs.Making.{after_make, Made, built_new, learnt_made, law_made}

module _ (z : Area) (p : Plain) (s : SlotId) (views : List View) (n : ℕ) (here : n < length views)
    (law : DirectoryLaw z p views) where
  new : Rope
  new = rope s ((slot_at p s).life + 1) ((slot_at p s).payload ∷ [])

  w : View
  w = record (view_at views n) { noted = new ∷ (view_at views n).noted }

  counted : (r : SlotId) (l : ℕ) → fresh (set views n w) r l ≡ fresh views r l + one_of r l new
  unfolding w
  counted r l =
      let e = total_set (λ (v : View). times_of r l v.noted) views n w here in
      let f = cons_of r l new (view_at views n).noted in omega arith

  new_times : one_of s ((slot_at p s).life + 1) new ≡ 1
  unfolding new
  new_times = one_same s ((slot_at p s).life + 1)
      (rope s ((slot_at p s).life + 1) ((slot_at p s).payload ∷ [])) refl refl

  new_other : (r : SlotId) (l : ℕ) → ((r ≡ s) × (l ≡ (slot_at p s).life + 1) → ⊥)
      → one_of r l new ≡ 0
  unfolding new
  new_other r l differs =
      ⊎_elim
      (λ (e : s ≡ r). one_later r l (rope s ((slot_at p s).life + 1) ((slot_at p s).payload ∷ []))
      (λ f. differs (sym e, sym f)))
      (λ (ne : s ≢ r). one_other r l (rope s ((slot_at p s).life + 1) ((slot_at p s).payload ∷ []))
      ne)
      (cases_id s r)

  made_views : Made p s views (set views n w)
  unfolding w
  made_views = record {
    same = λ r l differs. let c = counted r l in let o = new_other r l differs in omega arith;
    once =
        let c = counted s ((slot_at p s).life + 1) in
        let o = new_times in
        ⊎_elim
        (λ (h : 0 < fresh views s ((slot_at p s).life + 1)). let g =
        law.lives s ((slot_at p s).life + 1) (omega arith) in absurd (omega arith))
        (λ h. omega arith)
        (cases_lt 0 (fresh views s ((slot_at p s).life + 1)));
    head = λ h. let c = counted s ((slot_at p s).life + 1) in let o = new_times in omega arith;
    keeps_same = λ r l. let e = total_set (λ (v : View). times_of r l v.kept) views n w here in
        omega arith;
    kept = λ r l t k. kept_set views n w r l t here (λ e i. i) k;
    used = let e = total_set (λ (v : View). v.used) views n w here in omega arith;
    quotas = let e = total_set (λ (v : View). v.quota) views n w here in omega arith;
    quota = at_view views n w (λ v. v.used ≤ v.quota) here (law.quota n) (λ m ne. law.quota m);
  }

  pub law_noted : (ss : List PlainSeat) → s.0 < length p.slots → stage_at p s ≡ Blank → Lawful p
      → IsOwn (slot_at p s).payload
      → DirectoryLaw z (after_make p ss s)
      (set views n (record (view_at views n) {
        noted =
            rope s ((slot_at p s).life + 1) ((slot_at p s).payload ∷ []) ∷ (view_at views n).noted;
      }))
  unfolding w new
  law_noted ss inside blank lawful own =
      law_made z p ss s inside blank lawful views (set views n w) made_views law
      (at_view views n w (Learnt z (after_make p ss s) (set views n w)) here
      (let l = learnt_made z p ss s inside blank lawful views (set views n w) made_views law
      (view_at views n) (law.learnt n) in
      record {
        noted = (
          built_new z p ss s inside blank lawful views (set views n w) made_views law
              own,
          l.noted,
        );
        seen = l.seen;
        ended = l.ended;
        ran = l.ran;
        led = l.led;
      })
      (λ m ne. learnt_made z p ss s inside blank lawful views (set views n w) made_views law
      (view_at views m) (law.learnt m)))
