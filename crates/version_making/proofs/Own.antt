-- What a seat has, by its view.
use Rattle.std.proofs.Common.{◌<◌, ◌≤◌, Bool, refl, ap, arith}
use Rattle.std.specs.Prelude.{Some, None, if◌then◌else◌}
use Rattle.map_law.specs.plain_state.declared.slot.SlotId.{SlotId}
use Rattle.map_law.specs.plain_state.Lists.{times}
use Rattle.map_law.specs.plain_protocol.Owns.{HasSlot}
use Rattle.map_law.specs.declared.view.View.{View}
use Rattle.map_law.specs.Patterns.{HasObject}
use Rattle.slot_store.specs.core_events.Counts.{one}
use Rattle.slot_store.proofs.Below.core_law_Kit.{one_same}
use Rattle.slot_store.specs.core_events.Shows.{show_seat}
use Rattle.slot_store.specs.domain_rule.Views.{object_in, own_of}
use Rattle.slot_store.specs.acquire_retire.Seats.{SeatState}
use Rattle.protected_loads.proofs.Telling.{holds_has}

pub own_object : (s : SlotId) (seat : SeatState View) → HasSlot (show_seat seat.view.core) s
    → HasObject (own_of seat.view) s (object_in seat.view s)
own_object s seat has = ap (λ (b : Bool). if b then Some (object_in seat.view s) else None) has

pub owned_has : (s : SlotId) (seat : SeatState View) → 0 < times s seat.view.core.owned
    → HasSlot (show_seat seat.view.core) s
owned_has s seat owned = holds_has seat.view.core s (omega (arith, owned))

pub owned_object : (s : SlotId) (seat : SeatState View) → 0 < times s seat.view.core.owned
    → HasObject (own_of seat.view) s (object_in seat.view s)
owned_object s seat owned = own_object s seat (owned_has s seat owned)

-- what is owned by a handle is there
pub handle_owned : (s : SlotId) (seat : SeatState View)
    → ((x : SlotId) → one x s ≤ times x seat.view.core.owned) → 0 < times s seat.view.core.owned
handle_owned s seat owns = let o = owns s in let same = one_same s s refl in omega (arith, o, same)
