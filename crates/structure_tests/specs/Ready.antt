-- What a seat has between two calls of a trial, and what a call leaves of it.
use Rattle.std.specs.Prelude.{◌≡◌, ◌≢◌, true, slice_index}
use Rattle.part_calls.specs.plain_state.declared.slot.SlotId.{SlotId}
use Rattle.part_calls.specs.core_events.Steps.{HasRoom}
use Rattle.part_calls.specs.domain_rule.Views.{object_in}
use Rattle.part_calls.specs.acquire_retire.Domains.{DomainState}
use Rattle.part_calls.specs.acquire_retire.Seats.{SeatState}
use Rattle.part_calls.specs.control_word.Resting.{IsAtRest, IsUnderNone}
use Rattle.hand_queues.specs.linked_queue.Queues.{IsAttached}
use Rattle.hand_queues.specs.queue_law.declared.view.View.{View as QueueView}

-- what a seat knows of the queue; of letters it knows nothing
abbrev pub View : Type 0
View = QueueView × Unit {0}

-- it is in no call, under no snapshot, and has room
pub record IsFree {P : Type 0} (d : DomainState P) (s : SeatState View) : Type 0 where
  pub rest : IsAtRest d s
  pub none : IsUnderNone s.view.core
  pub room : HasRoom s.view.core

-- the same, and it takes part in the queue
pub record IsReady {P : Type 0} (d : DomainState P) (s : SeatState View) : Type 0 where
  pub free : IsFree d s
  pub attached : IsAttached s.view.client.0

-- how far it has laid the queue is as it was
abbrev pub StandsAs : SeatState View → SeatState View → Type 0
StandsAs old new = new.view.client.0.stand ≡ old.view.client.0.stand

-- a free seat that has not left, and may attach itself
pub record IsNew {P : Type 0} (d : DomainState P) (s : SeatState View) : Type 0 where
  pub free : IsFree d s
  pub here : s.view.client.0.here ≡ true

-- what it has in this slot is a letter
abbrev pub IsLetterIn : SlotId → SeatState View → Type 0
IsLetterIn s seat = slice_index (object_in seat.view s).payload 0 ≢ 0
