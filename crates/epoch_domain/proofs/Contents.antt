-- What a step finds in a place is null, or the number of a slot of the domain and one; and what a seat stores once it
-- took it out.
use Rattle.std.proofs.Common.{◌≡◌, ℕ, ◌<◌, ◌^◌, true, List, ap, ◌∙◌, subst, arith, refl}
use Rattle.std.specs.Prelude.{slice_index, ◌==◌, Option, Some, None}
use Rattle.std.proofs.lemmas.Bool.Decides.{nat_tests}
use Rattle.atomic_table.specs.declared.shared.Seat.{Seat as TableSeat}
use Rattle.epoch_core.proofs.Keeps.{history_sound}
use Rattle.epoch_core.proofs.Writes.{IsPlace}
use Rattle.epoch_rule.specs.plain_protocol.plain_state.declared.act.EventPlace.{EventPlace}
use Rattle.epoch_rule.specs.plain_protocol.plain_state.declared.act.EventPlace.TheVariants.{Field}
use Rattle.epoch_rule.specs.plain_protocol.plain_state.declared.act.PlainAct.{PlainAct}
use Rattle.epoch_rule.specs.plain_protocol.plain_state.declared.slot.SlotId.{SlotId}
use Rattle.epoch_rule.specs.plain_protocol.plain_state.State.{Plain}
use Rattle.epoch_rule.specs.plain_protocol.plain_state.Steps.{word_of}
use Rattle.epoch_rule.specs.plain_protocol.Owns.{OwnPart}
use Rattle.epoch_rule.specs.epoch_core.core_events.Words.{slot_in}
use Rattle.epoch_rule.specs.epoch_core.declared.act.EpochAct.{EpochAct}
use Rattle.epoch_rule.specs.epoch_core.declared.act.EpochAct.TheVariants as act
use Rattle.epoch_rule.specs.epoch_core.declared.outcome.EpochOutcome.{EpochOutcome}
use Rattle.epoch_rule.specs.epoch_core.declared.outcome.EpochOutcome.TheVariants as outcome
use Rattle.epoch_rule.specs.epoch_core.declared.shape.EpochShape.{EpochShape}
use Rattle.epoch_rule.specs.epoch_core.declared.view.EpochPhase.TheVariants as phase
use Rattle.epoch_rule.specs.epoch_core.declared.view.EpochView.{EpochView}
use Rattle.epoch_rule.specs.epoch_core.Runs.{AreQuotas, IsShape, view_at}
use Rattle.epoch_rule.specs.epoch_core.Sound.{SeatLaw}
use Rattle.epoch_rule.specs.epoch_core.Steps.{May, gave, moved, noted, place, took}
use Rattle.epoch_rule.specs.epoch_core.Words.{place_at}
use Rattle.epoch_rule.specs.declared.view.EpochSeatView.{EpochSeatView}
use Rattle.epoch_domain.specs.Calls.{Stepped}
use Rattle.epoch_domain.specs.Domains.{DomainState, IsDomain, StoredDomain}
use Rattle.epoch_domain.specs.Exchanging.{phase_taking}
use Rattle.epoch_domain.specs.Seats.{stored}
use Rattle.epoch_domain.proofs.InRange.{content_in, ended_in_range, open_in_range}

-- the act is on the word of this place, which is there where a seat may make the act
pub record IsOn (z : EpochShape) (a : EpochAct) (q : EventPlace) : Type 0 where
  pub word : (v : EpochView) → place z a v ≡ place_at z q
  pub there : (n : ℕ) (v : EpochView) → SeatLaw z n v → May z a v → IsPlace z q

pub found_small : {P V : Type 0} {fits : List ℕ → Type 0} (d e : DomainState P) → e ≡ d → (kept : StoredDomain)
    → IsDomain e.table e.shape e.quotas kept
    → (next_view : OwnPart → OwnPart → V → PlainAct → ℕ → V) (allows : Plain → Plain → ℕ → V → V → Type 0)
    (a : EpochAct) (old new : TableSeat (Unit {0}) (EpochSeatView V)) (w : ℕ)
    → Stepped fits d next_view allows a old w new → (q : EventPlace) → IsOn d.shape a q → w < 2 ^ 32
found_small d e same kept in_domain next_view allows a old new w step q on =
    let ranges = subst (λ (f : DomainState _). IsShape f.shape × AreQuotas f.shape f.quotas) same
    (in_domain.shape, in_domain.quotas) in
    let h = step.told.happened in
    let z = d.shape in
    let n = old.me.0.core.seat in
    let so = history_sound z d.quotas h.events h.before ranges.0 ranges.1 h.history in
    let views = so.views in
    let enabled = h.enabled in
    let low = enabled.0 in
    let there = on.there n (view_at h.before n) (so.seats n (omega (arith, views, low))) enabled.1 in
    let content = content_in z h.before so q there in
    let found = h.found ∙ ap (slice_index h.before.words) (on.word (view_at h.before n)) in
    let slots = ranges.0.3 in omega (arith, content, found, slots)

-- the acts that are on a place
pub look_on : (z : EpochShape) (q : EventPlace) → IsOn z (act.Look q) q
look_on z q = record {
  word = λ v. refl;
  there = λ n v law may. open_in_range z n v law q may.2;
}

pub swap_on : (z : EpochShape) (q : EventPlace) (new : Option SlotId) → IsOn z (act.Swap q new) q
swap_on z q new = record {
  word = λ v. refl;
  there = λ n v law may. open_in_range z n v law q may.1;
}

pub cas_on : (z : EpochShape) (q : EventPlace) (old new : Option SlotId)
    → IsOn z (act.Cas q old new) q
cas_on z q old new = record {
  word = λ v. refl;
  there = λ n v law may. open_in_range z n v law q may.1;
}

pub clear_on : (z : EpochShape) (s : SlotId) (i : ℕ) → IsOn z (act.Clear s i) (Field s i)
clear_on z s i = record {
  word = λ v. refl;
  there = λ n v law may. ended_in_range z n v law s i may.1 may.2;
}

-- WHAT IS STORED
module _ (v : EpochView) (idle : v.phase ≡ phase.Idle) (a : EpochAct) (o : EpochOutcome) where
  pub took_stored : (c new : Option SlotId) → stored (noted a o (took c (gave new v)))
      ≡ record (stored v) { phase = phase_taking c }
  took_stored None None = λ i. record (stored v) { phase = idle i }
  took_stored None (Some s) = λ i. record (stored v) { phase = idle i }
  took_stored (Some x) None = refl
  took_stored (Some x) (Some s) = refl

module _ (z : EpochShape) (v : EpochView) (idle : v.phase ≡ phase.Idle) (w : ℕ) where
  pub swap_stored : (p : EventPlace) (new : Option SlotId) → stored (moved z (act.Swap p new) w v)
      ≡ record (stored v) { phase = phase_taking (slot_in w) }
  swap_stored p new = took_stored v idle (act.Swap p new) (outcome.Found (slot_in w)) (slot_in w) new

  pub clear_stored : (s : SlotId) (i : ℕ) → stored (moved z (act.Clear s i) w v)
      ≡ record (stored v) { phase = phase_taking (slot_in w) }
  clear_stored s i = took_stored v idle (act.Clear s i) (outcome.Found (slot_in w)) (slot_in w) None

  pub cas_done : (p : EventPlace) (old new : Option SlotId) → w ≡ word_of old
      → stored (moved z (act.Cas p old new) w v)
      ≡ record (stored v) { phase = phase_taking (slot_in w) }
  cas_done p old new is =
      let test : (w == word_of old) ≡ true = grind (arith, nat_tests) in
      rw test (took_stored v idle (act.Cas p old new) outcome.Done (slot_in w) new)
