-- The item of a push that pushed nothing is the seat's as before.
use Rattle.std.proofs.Common.{◌≡◌, ◌<◌, ap, sym, subst}
use Rattle.std.specs.Prelude.{Err, IfErr, Ok, OnErr, Result}
use Rattle.queue_protocol.specs.plain_state.declared.slot.SlotId.{SlotId}
use Rattle.queue_protocol.specs.plain_state.Lists.{times}
use Rattle.slot_store.specs.acquire_retire.Seats.{SeatState}
use Rattle.slot_store.specs.counted_handles.Handles.{Handle}
use Rattle.queue_protocol.specs.queue_law.declared.view.View.{View}
use Rattle.linked_queue.specs.declared.queue.PushError.{PushError}
use Rattle.linked_queue.specs.Pushes.{PushesNothing, back_of}

pub handed_back : (r : Result (Unit {0}) PushError) (item : Handle) (old new : SeatState View)
    → 0 < times item.slot old.view.core.owned → OnErr r (PushesNothing old new)
    → IfErr r (λ error. back_of error ≡ item)
    → IfErr r (λ error. 0 < times (back_of error).slot new.view.core.owned)
handed_back (Ok done) item old new owned nothing back = tt
handed_back (Err error) item old new owned nothing back =
    subst (λ (s : SlotId). 0 < times s new.view.core.owned) (sym (ap (λ (h : Handle). h.slot) back))
    (subst (λ n. 0 < n) (sym (nothing.leaves.owns item.slot)) owned)
