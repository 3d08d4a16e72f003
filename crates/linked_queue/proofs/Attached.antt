-- A seat that pushes or pops stays attached, and owns what it popped.
use Rattle.std.proofs.Common.{◌≡◌, ◌<◌, [], ◌∷◌, ◌++◌, List, ap, ◌∙◌, arith}
use Rattle.std.specs.Prelude.{Err, IfOk, IfSome, Ok, OnErr, Option, Result, Some, None}
use Rattle.queue_protocol.specs.plain_state.declared.slot.SlotId.{SlotId}
use Rattle.queue_protocol.specs.plain_state.Lists.{times}
use Rattle.slot_store.specs.counted_handles.Handles.{Handle}
use Rattle.slot_store.specs.acquire_retire.Seats.{SeatState}
use Rattle.queue_protocol.specs.queue_law.declared.view.View.{View}
use Rattle.part_calls.specs.atomic_shared.Places.{named}
use Rattle.linked_queue.specs.Leaving.{found_by, with_found}
use Rattle.linked_queue.specs.Pops.{OwnsBoth, Pops, PopsWith, both_by}
use Rattle.linked_queue.specs.Pushes.{Pushes, PushesNothing}
use Rattle.linked_queue.specs.Queues.{IsAttached}
use Rattle.linked_queue.proofs.Both.{both_found}
use Rattle.linked_queue.proofs.Poppings.{some_found}

pub pops_attached : (found : Option SlotId) (old new : SeatState View) → Pops found old new
    → IsAttached old.view.client → IsAttached new.view.client
pops_attached None old new pops attached = record {
  here = ap (λ (v : View). v.here) pops.deeds ∙ attached.here;
  attached = ap (λ (v : View). v.attached) pops.deeds ∙ attached.attached;
}
pops_attached (Some s) old new pops attached = record {
  here = ap (λ (v : View). v.here) pops.deeds ∙ attached.here;
  attached = ap (λ (v : View). v.attached) pops.deeds ∙ attached.attached;
}

pub pops_with_attached : (found : Option (SlotId × Option SlotId)) (old new : SeatState View)
    → PopsWith found old new → IsAttached old.view.client → IsAttached new.view.client
pops_with_attached None old new pops attached = record {
  here = ap (λ (v : View). v.here) pops.deeds ∙ attached.here;
  attached = ap (λ (v : View). v.attached) pops.deeds ∙ attached.attached;
}
pops_with_attached (Some x) old new pops attached = record {
  here = ap (λ (v : View). v.here) pops.deeds ∙ attached.here;
  attached = ap (λ (v : View). v.attached) pops.deeds ∙ attached.attached;
}

pub content_owned : (found : Option Handle) (xs ys : List SlotId)
    → ((x : SlotId) → times x ys ≡ times x (with_found (named found) xs))
    → IfSome found (λ content. 0 < times content.slot ys)
content_owned None xs ys owns = tt
content_owned (Some content) xs ys owns =
    let is = owns content.slot in
    let some' = some_found content.slot xs in omega arith

pub pops_with_owned : {E : Type 0} (r : Result (Option (Handle × Option Handle)) E)
    (old new : SeatState View) → PopsWith (both_by r) old new
    → IfOk r (λ found. IfSome found (λ pair. OwnsBoth pair new.view.core))
pops_with_owned (Ok None) old new pops = tt
pops_with_owned (Ok (Some pair)) old new pops =
    let s = pair.0.slot in
    let is = pops.leaves.owns s in
    let some' = both_found (s, named pair.1) old.view.core.owned in (
      omega arith,
      content_owned pair.1 (old.view.core.owned ++ s ∷ []) new.view.core.owned pops.leaves.owns,
    )
pops_with_owned (Err e) old new pops = tt

pub pops_owned : {E : Type 0} (r : Result (Option Handle) E) (old new : SeatState View)
    → Pops (found_by r) old new
    → IfOk r (λ found. IfSome found (λ item. 0 < times item.slot new.view.core.owned))
pops_owned (Ok None) old new pops = tt
pops_owned (Ok (Some item)) old new pops =
    let is = pops.leaves.owns item.slot in
    let some' = some_found item.slot old.view.core.owned in omega arith
pops_owned (Err e) old new pops = tt

pub push_attached : {T E : Type 0} (item : SlotId) (r : Result T E) (old new : SeatState View)
    → IfOk r (λ done. Pushes item old new) → OnErr r (PushesNothing old new)
    → IsAttached old.view.client → IsAttached new.view.client
push_attached item (Ok x) old new pushed nothing attached = record {
  here = ap (λ (v : View). v.here) pushed.deeds ∙ attached.here;
  attached = ap (λ (v : View). v.attached) pushed.deeds ∙ attached.attached;
}
push_attached item (Err e) old new pushed nothing attached = record {
  here = ap (λ (v : View). v.here) nothing.deeds ∙ attached.here;
  attached = ap (λ (v : View). v.attached) nothing.deeds ∙ attached.attached;
}
