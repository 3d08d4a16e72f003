-- A step of a call, and what was so at it.
use Rattle.std.specs.Prelude.{ℕ}
use Rattle.map_law.specs.plain_state.declared.act.PlainAct.{PlainAct}
use Rattle.map_law.specs.plain_state.State.{Plain}
use Rattle.map_law.specs.plain_protocol.Owns.{OwnPart}
use Rattle.map_law.specs.declared.view.View.{View}
use Rattle.map_law.specs.Nodes.{IsNode}
use Rattle.slot_store.specs.core_events.declared.act.Act.{Act}
use Rattle.slot_store.specs.core_events.declared.outcome.Outcome.{Outcome}
use Rattle.slot_store.specs.core_events.Runs.{after as after_act}
use Rattle.slot_store.specs.core_events.Shows.{shows}
use Rattle.slot_store.specs.acquire_retire.Calls.{Steps}
use Rattle.slot_store.specs.acquire_retire.Domains.{DomainState}
use Rattle.slot_store.specs.acquire_retire.Seats.{SeatState}
use Rattle.version_making.specs.Keeping.{GoesOn}

-- Between these two states of a seat it made this act with a deed, which was answered so. The fact held of what the
-- domain showed before the step and after it.
pub record AtAStep {P : Type 0} (d : DomainState P)
    (next : OwnPart → OwnPart → View → PlainAct → ℕ → View)
    (allows : Plain → Plain → ℕ → View → View → Type 0) (a : Act) (o : Outcome)
    (fact : Plain → Plain → Type 0) (old new : SeatState View) : Type 0 where
  pub before : SeatState View
  pub after : SeatState View
  pub step : Steps IsNode d next allows a before after o
  pub since : GoesOn old.view.core before.view.core
  pub till : GoesOn after.view.core new.view.core
  pub holds :
      fact (shows d.shape step.told.happened.before)
      (shows d.shape (after_act d.shape step.told.happened.before before.view.core.seat a))
