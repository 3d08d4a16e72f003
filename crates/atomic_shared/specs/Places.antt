-- Strong places, and the handles that go into them.
use Rattle.std.specs.Prelude.{Option, Some, None}
use Rattle.protected_loads.specs.counted_handles.Handles.{Handle}
use Rattle.protected_loads.specs.counted_handles.declared.place.Place.{Place}
use Rattle.protected_loads.specs.counted_handles.declared.place.Place.TheVariants as place
use Rattle.protected_loads.specs.plain_state.declared.act.EventPlace.{EventPlace}
use Rattle.protected_loads.specs.plain_state.declared.act.EventPlace.TheVariants.{Cell, Field}
use Rattle.protected_loads.specs.plain_state.declared.slot.SlotId.{SlotId}

-- a strong place, among all places
abbrev pub strong_place : Place → EventPlace
strong_place (place.Cell i) = Cell i
strong_place (place.Field s i) = Field s i

-- the slot that a handle names, if there is one
abbrev pub named : Option Handle → Option SlotId
named None = None
named (Some handle) = Some handle.slot
