-- The law of a directory without cells, where a view notes the same in another order.
use Rattle.std.proofs.Common.{◌≡◌, ℕ, ◌<◌, ◌≤◌, List, length, set, refl, sym, ◌∙◌, subst, arith}
use Rattle.std.proofs.lemmas.List.{set-get_or}
use Rattle.plain_protocol.specs.plain_state.declared.slot.SlotId.{SlotId}
use Rattle.plain_protocol.specs.plain_state.State.{Plain, slot_at}
use Rattle.directory_law.specs.declared.view.Rope.{Rope}
use Rattle.directory_law.specs.declared.view.View.{View}
use Rattle.directory_law.specs.Views.{Each, gone, view_at, times_of, fresh}
use Rattle.directory_law.specs.Cells.{Area}
use Rattle.directory_law.specs.Learnt.{Built, Learnt}
use Rattle.directory_law.specs.Law.{DirectoryLaw}
use Rattle.directory_law.proofs.Kit.{total_set, at_view}
use Rattle.directory_law.proofs.Turns.{Turned, turned_set, learnt_turned, law_turned}

module _ (z : Area) (p : Plain) (views : List View) (n : ℕ) (es : List Rope)
    (here : n < length views) (law : DirectoryLaw z p views)
    (same : (s : SlotId) (l : ℕ) → times_of s l es ≡ times_of s l (view_at views n).noted)
    (built : Each (Built p) es) where
  w : View
  w = record (view_at views n) { noted = es }

  counted : (s : SlotId) (l : ℕ) → fresh (set views n w) s l ≡ fresh views s l
  unfolding w
  counted s l =
      let e = total_set (λ (v : View). times_of s l v.noted) views n
      (record (view_at views n) { noted = es }) here in
      let f = same s l in omega arith

  turned : Turned views (set views n w)
  unfolding w
  turned = turned_set views n (record (view_at views n) { noted = es }) here
      (λ s l. let f = same s l in omega arith) refl (omega arith)

  pub law_reordered : DirectoryLaw z p (set views n (record (view_at views n) { noted = es }))
  unfolding w
  law_reordered =
      let after = set views n (record (view_at views n) { noted = es }) in
      let l = learnt_turned z p views after turned law (view_at views n) (law.learnt n) in
      law_turned z p views after turned law
      (λ s live. record {
        stage = live.stage;
        mark = live.mark;
        head = live.head;
        bound = sym (counted s (slot_at p s).life) ∙ live.bound;
      })
      (let e = total_set (λ (v : View). v.quota) views n (record (view_at views n) { noted = es })
      here in let f = law.quotas in omega arith)
      (at_view views n (record (view_at views n) { noted = es }) (λ v. v.used ≤ v.quota) here
      (law.quota n) (λ m ne. law.quota m))
      (at_view views n (record (view_at views n) { noted = es }) (Learnt z p after) here
      (record { noted = built; seen = l.seen; ended = l.ended; ran = l.ran; led = l.led })
      (λ m ne. learnt_turned z p views after turned law (view_at views m) (law.learnt m)))

-- no view notes anything else
pub law_same_notes : (z : Area) (p : Plain) (views : List View) (n : ℕ) → DirectoryLaw z p views
    → DirectoryLaw z p (set views n (view_at views n))
law_same_notes z p views n law = subst (DirectoryLaw z p) (sym (set-get_or views n gone)) law
