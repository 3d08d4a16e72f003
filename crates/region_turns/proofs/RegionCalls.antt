-- A seat whose look found a slot holds it from then on.
use Rattle.std.proofs.Common.{◌≡◌, ◌∙◌, ℕ, List, Option, Some, refl, sym, subst, arith}
use Rattle.turn_loops.proofs.Below.core_law_Kit.{one_same, times_push}
use Rattle.epoch_refs.specs.plain_protocol.plain_state.declared.act.EventPlace.{EventPlace}
use Rattle.epoch_refs.specs.plain_protocol.plain_state.declared.act.PlainAct.{PlainAct}
use Rattle.epoch_refs.specs.plain_protocol.plain_state.declared.slot.SlotId.{SlotId}
use Rattle.epoch_refs.specs.plain_protocol.plain_state.State.{Plain}
use Rattle.epoch_refs.specs.plain_protocol.Owns.{OwnPart}
use Rattle.epoch_refs.specs.epoch_core.core_events.Words.{slot_in}
use Rattle.epoch_refs.specs.epoch_core.declared.act.EpochAct.TheVariants as act
use Rattle.epoch_refs.specs.epoch_core.declared.outcome.EpochOutcome.{EpochOutcome}
use Rattle.epoch_refs.specs.epoch_core.declared.outcome.EpochOutcome.TheVariants as outcome
use Rattle.epoch_refs.specs.epoch_core.declared.view.EpochView.{EpochView}
use Rattle.epoch_refs.specs.epoch_core.Steps.{saw}
use Rattle.epoch_refs.specs.epoch_core.Views.{Holds}
use Rattle.epoch_refs.specs.epoch_domain.Calls.{Steps}
use Rattle.epoch_refs.specs.epoch_domain.Domains.{DomainState}
use Rattle.epoch_refs.specs.epoch_domain.Seats.{SeatState}

saw_holds : (s : SlotId) (v : EpochView) → Holds (saw (Some s) v) s
saw_holds s v = let push = times_push s s v.seen in let one = one_same s s refl in omega arith

pub found_is : (a b : Option SlotId) → ◌≡◌ {A = EpochOutcome} (outcome.Found a) (outcome.Found b)
    → a ≡ b
found_is a b is = cc (is)

module _ {P V : Type 0} {fits : List ℕ → Type 0} {d : DomainState P} {old new : SeatState V}
    {next : OwnPart → OwnPart → V → PlainAct → ℕ → V}
    {allows : Plain → Plain → ℕ → V → V → Type 0} {p : EventPlace} {c : Option SlotId}
    (looks : Steps fits d next allows (act.Look p) old new (outcome.Found c)) where
  pub looked_holds : (s : SlotId) → c ≡ Some s → Holds new.view.core s
  looked_holds s is =
      let v = old.view.core in
      let found = sym (found_is c (slot_in looks.word) looks.answers) ∙ is in
      let held = saw_holds s v in
      let seen = subst (λ (x : Option SlotId). Holds (saw x v) s) (sym found) held in
      subst (λ (u : EpochView). Holds u s) (sym looks.told.core) seen
