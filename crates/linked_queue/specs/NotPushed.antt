-- Why the push of a copy pushed nothing.
use Rattle.std.specs.Prelude.{ℕ, List, Option, Some, None}
use Rattle.queue_protocol.specs.plain_state.declared.slot.SlotId.{SlotId}
use Rattle.slot_store.specs.declared.making.MakeError.{MakeError}
use Rattle.slot_store.specs.acquire_retire.Domains.{DomainState}
use Rattle.slot_store.specs.acquire_retire.Seats.{SeatState}
use Rattle.queue_protocol.specs.queue_law.declared.view.View.{View}
use Rattle.queue_protocol.specs.declared.law.QueueLaw.{QueueLaw}
use Rattle.linked_queue.specs.declared.pushing.NotPushed.{NotPushed}
use Rattle.linked_queue.specs.declared.pushing.NotPushed.TheVariants as failed
use Rattle.linked_queue.specs.PushLosses.{LosesPush}
use Rattle.linked_queue.specs.Pushes.{IsWhyRefused}

abbrev pub IsWhyNotPushed : (List ℕ → Type 0) → DomainState QueueLaw → SlotId → NotPushed
    → SeatState View → SeatState View → Type 0
IsWhyNotPushed fits d item (failed.Again seen now) old new = LosesPush fits d item seen now old new
IsWhyNotPushed fits d item (failed.Refused error) old new = IsWhyRefused fits d 5 error old new

abbrev pub cause_in : NotPushed → Option MakeError
cause_in (failed.Again seen now) = None
cause_in (failed.Refused error) = Some error
