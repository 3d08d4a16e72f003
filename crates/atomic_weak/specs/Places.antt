-- Weak places, and the handles that go into them.
use Rattle.std.specs.Prelude.{Option, Some, None}
use Rattle.protected_loads.specs.counted_handles.Handles.{Handle}
use Rattle.protected_loads.specs.counted_handles.declared.place.WeakPlace.{WeakPlace}
use Rattle.protected_loads.specs.counted_handles.declared.place.WeakPlace.TheVariants as place
use Rattle.protected_loads.specs.plain_state.declared.act.EventPlace.{EventPlace}
use Rattle.protected_loads.specs.plain_state.declared.act.EventPlace.TheVariants.{WeakCell, WeakField}
use Rattle.protected_loads.specs.plain_state.declared.slot.SlotId.{SlotId}

-- a weak place, among all places
abbrev pub weak_place : WeakPlace → EventPlace
weak_place (place.Cell i) = WeakCell i
weak_place (place.Field s) = WeakField s

-- the slot that a handle names, if there is one
abbrev pub named : Option Handle → Option SlotId
named None = None
named (Some handle) = Some handle.slot
