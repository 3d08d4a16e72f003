-- What a look at field 0 of the node before one that was seen tells a seat that holds both.
use Rattle.std.proofs.Common.{◌≡◌, ◌≢◌, ℕ, ◌+◌, ◌<◌, refl, ap, sym, ◌∙◌, subst, arith}
use Rattle.weak_part_calls.specs.plain_state.declared.act.PlainAct.{PlainAct}
use Rattle.weak_part_calls.specs.plain_state.State.{Plain, no_payload}
use Rattle.weak_part_calls.specs.plain_protocol.Laws.{Keeps}
use Rattle.weak_part_calls.specs.plain_protocol.Owns.{OwnPart}
use Rattle.linked_queue.specs.queue_law.declared.view.View.{View}
use Rattle.linked_queue.specs.queue_law.Chain.{Ends}
use Rattle.linked_queue.specs.queue_law.Law.{WholeLaw}
use Rattle.linked_queue.specs.queue_law.Lessons.{SetReady, set_next}
use Rattle.linked_queue.specs.queue_law.Views.{first_view, view_at}
use Rattle.linked_queue.specs.queue_law.Words.{Live, first_of, held_times, slot_at}
use Rattle.linked_queue.proofs.Below.queue_law_Deeds as deeds
use Rattle.linked_queue.proofs.Below.queue_law_Effects.{calm_quiet}
use Rattle.linked_queue.proofs.Below.queue_law_Kit.{held_live}
use Rattle.linked_queue.proofs.Below.queue_law_Lessons.{reads_calm}
use Rattle.linked_queue.proofs.Below.queue_law_Seen.{before_here, before_present}

-- the deed that learns whether the field is set is ready, and the seat holds the node before
pub record HeldSetReady (u : Ends) (own : OwnPart) (v : View) (step : PlainAct) : Type 0 where
  pub set : SetReady u own v step
  pub holds : 0 < held_times set.before own.seat

-- the slot before is a node
abbrev pub BeforeTells : Plain → Plain → ℕ → View → View → Type 0
BeforeTells p q n v w = (s : ℕ) → v.eyes.before ≡ s + 1 → (slot_at q s).payload ≡ no_payload

pub held_set_keeps : (u : Ends) → u.head ≢ u.tail
    → Keeps (WholeLaw u) first_view (HeldSetReady u) set_next BeforeTells
held_set_keeps u cells p q views n step found meets low able does =
    let r = able.set in
    let v = view_at views n in
    let law = meets.law.0 in
    let h = law.0 in let ts = law.1 in let t = law.2 in
    let kept = deeds.is_set u cells p q views n step found meets low r does in
    let live = held_live p n r.before meets.lawful able.holds in
    let b = before_here u p views n v r.before r.node h ts t meets.lawful law.3 refl r.held r.seen
    r.seen_life r.at_before r.form in
    let pr = before_present u p views n v r.before r.node h ts t meets.lawful law.3 refl r.held
    r.seen
    r.seen_life r.at_before r.form live in
    let w = calm_quiet p q n step found meets.lawful (reads_calm (first_of r.before) step r.reads)
    does in (
      kept.0,
      λ s is.
          let same : s ≡ r.before = let x = r.at_before in omega arith in
          w.payload s (subst (Live p) (sym same) live)
          ∙ (ap (λ z. (slot_at p z).payload) (same ∙ sym b.2) ∙ pr.2),
    )
