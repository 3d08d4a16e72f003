-- What a push leaves of a seat, whatever it answers.
use Rattle.std.proofs.Common.{◌≡◌, ◌<◌, ap, sym, ◌∙◌, subst}
use Rattle.std.specs.Prelude.{Err, IfErr, IfOk, Ok, OnErr, Result}
use Rattle.weak_part_calls.specs.plain_state.declared.slot.SlotId.{SlotId}
use Rattle.weak_part_calls.specs.plain_state.Lists.{times}
use Rattle.weak_part_calls.specs.counted_handles.Handles.{Handle}
use Rattle.weak_part_calls.specs.acquire_retire.Seats.{SeatState}
use Rattle.linked_queue.specs.queue_law.declared.view.View.{View}
use Rattle.linked_queue.specs.queue_law.Pushes.{carried_item, flying_view}
use Rattle.linked_queue.specs.declared.queue.PushError.{PushError}
use Rattle.linked_queue.specs.Pushes.{back_of, pushed_too}
use Rattle.linked_queue.specs.Queues.{IsAttached, beside_eyes, deeds_in}
use Rattle.double_link_queue.specs.Pushes.{Pushes, PushesNothing, backed_in, beside_back, landed_in}

-- a seat that pushes stays attached
pub push_attached : {T E : Type 0} (item : SlotId) (r : Result T E) (old new : SeatState View)
    → IfOk r (λ done. Pushes item old new) → OnErr r (PushesNothing old new)
    → IsAttached old.view.client → IsAttached new.view.client
push_attached item (Ok x) old new pushed nothing attached = record {
  here = ap (λ (v : View). v.here) pushed.deeds ∙ attached.here;
  attached = ap (λ (v : View). v.attached) pushed.deeds ∙ attached.attached;
}
push_attached item (Err e) old new pushed nothing attached = record {
  here = ap (λ (v : View). v.here) nothing.deeds ∙ attached.here;
  attached = ap (λ (v : View). v.attached) nothing.deeds ∙ attached.attached;
}

-- the item of a push that pushed nothing is the seat's as before
pub handed_back : (r : Result (Unit {0}) PushError) (item : Handle) (old new : SeatState View)
    → 0 < times item.slot old.view.core.owned → OnErr r (PushesNothing old new)
    → IfErr r (λ error. back_of error ≡ item)
    → IfErr r (λ error. 0 < times (back_of error).slot new.view.core.owned)
handed_back (Ok done) item old new owned nothing back = tt
handed_back (Err error) item old new owned nothing back =
    subst (λ (s : SlotId). 0 < times s new.view.core.owned) (sym (ap (λ (h : Handle). h.slot) back))
    (subst (λ n. 0 < n) (sym (nothing.leaves.owns item.slot)) owned)

-- the deeds of a push whose node was linked back, helped and exchanged
pub taken_deeds : (last : SlotId) (v w u x : View) → w ≡ backed_in last v
    → beside_eyes u ≡ beside_eyes w → x ≡ flying_view u
    → landed_in (deeds_in x) ≡ pushed_too (carried_item v) (landed_in (deeds_in v))
taken_deeds last v w u x backed helped flying =
    ap (λ (y : View). landed_in (deeds_in y)) flying
    ∙ ap (λ (y : View). pushed_too (carried_item y) (landed_in (deeds_in y))) helped
    ∙ ap (λ (y : View). pushed_too (carried_item y) (landed_in (deeds_in y))) backed

-- and of one that came no further
pub untaken : (last : SlotId) (v w u : View) → w ≡ backed_in last v → beside_eyes u ≡ beside_eyes w
    → beside_back u ≡ beside_back v
untaken last v w u backed helped = ap beside_back helped ∙ ap beside_back backed
