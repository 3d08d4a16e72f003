-- Why the push of a copy pushed nothing.
use Rattle.std.specs.Prelude.{ℕ, List, Option, Some, None}
use Rattle.weak_part_calls.specs.plain_state.declared.slot.SlotId.{SlotId}
use Rattle.linked_queue.specs.declared.queue.PushError.{PushError}
use Rattle.linked_queue.specs.declared.queue.PushError.TheVariants as unpushed
use Rattle.weak_part_calls.specs.slot_store.declared.making.MakeError.{MakeError}
use Rattle.weak_part_calls.specs.acquire_retire.Domains.{DomainState}
use Rattle.weak_part_calls.specs.acquire_retire.Seats.{SeatState}
use Rattle.linked_queue.specs.queue_law.declared.view.View.{View}
use Rattle.linked_queue.specs.queue_protocol.declared.law.QueueLaw.{QueueLaw}
use Rattle.linked_queue.specs.Pushes.{IsWhyRefused}
use Rattle.double_link_queue.specs.declared.pushing.NotPushed.{NotPushed}
use Rattle.double_link_queue.specs.declared.pushing.NotPushed.TheVariants as failed
use Rattle.double_link_queue.specs.Steps.{LosesPush}

abbrev pub IsWhyNotPushed : (List ℕ → Type 0) → DomainState QueueLaw → SlotId → NotPushed
    → SeatState View → SeatState View → Type 0
IsWhyNotPushed fits d item (failed.Again seen now) old new = LosesPush fits d item seen now old new
IsWhyNotPushed fits d item (failed.Refused error) old new = IsWhyRefused fits d 7 error old new

-- why nothing was pushed: at most seven adds were left, or `make` has refused, or another seat was quicker
abbrev pub IsWhyUnpushed : (List ℕ → Type 0) → DomainState QueueLaw → SlotId → PushError
    → SeatState View → SeatState View → Type 0
IsWhyUnpushed fits d item (unpushed.Again seen now back) old new =
    LosesPush fits d item seen now old new
IsWhyUnpushed fits d item (unpushed.Refused r) old new = IsWhyRefused fits d 7 r.why old new

abbrev pub cause_in : NotPushed → Option MakeError
cause_in (failed.Again seen now) = None
cause_in (failed.Refused error) = Some error
