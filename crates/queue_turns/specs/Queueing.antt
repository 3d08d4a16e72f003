-- A seat that pushes and pops, before it takes part in the queue and then.
use Rattle.std.specs.Prelude.{ℕ, ◌≡◌, ◌+◌, true, length}
use Rattle.turn_loops.specs.plain_state.declared.slot.SlotId.{SlotId}
use Rattle.turn_loops.specs.plain_state.Lists.{times}
use Rattle.turn_loops.specs.core_events.Steps.{HasRoom}
use Rattle.turn_loops.specs.acquire_retire.Domains.{DomainState}
use Rattle.turn_loops.specs.acquire_retire.Seats.{SeatState}
use Rattle.turn_loops.specs.control_word.Resting.{IsAtRest}
use Rattle.linked_queue.specs.Queues.{IsAttached}
use Rattle.linked_queue.specs.queue_law.declared.view.View.{View}
use Rattle.linked_queue.specs.queue_protocol.declared.law.QueueLaw.{QueueLaw}

-- it is in no call, has room, hasn't left, and has laid nothing
pub record IsFreeToQueue (d : DomainState QueueLaw) (s : SeatState View) : Type 0 where
  pub rest : IsAtRest d s
  pub room : HasRoom s.view.core
  pub here : s.view.client.here ≡ true
  pub unlaid : s.view.client.stand.laid ≡ 0
  pub number : s.view.client.number ≡ s.view.core.seat

-- it is in no call, has room, and takes part in the queue
pub record IsReadyToQueue (d : DomainState QueueLaw) (s : SeatState View) : Type 0 where
  pub rest : IsAtRest d s
  pub room : HasRoom s.view.core
  pub attached : IsAttached s.view.client

-- it owns each slot as often as before
abbrev pub OwnsAsMuch : SeatState View → SeatState View → Type 0
OwnsAsMuch old new =
    (x : SlotId) → times x new.view.core.owned ≡ times x old.view.core.owned

-- it has pushed n items more
abbrev pub HasPushed : ℕ → View → View → Type 0
HasPushed n v w = length w.pushed ≡ length v.pushed + n
