-- What a load of a strong reference asks of its place.
use Rattle.protected_loads.specs.core_events.declared.shape.Shape.{Shape}
use Rattle.protected_loads.specs.core_events.declared.view.CoreView.{CoreView}
use Rattle.protected_loads.specs.core_events.Views.{IsReadable}
use Rattle.protected_loads.specs.counted_handles.declared.place.Place.{Place}
use Rattle.atomic_shared.specs.Places.{strong_place}

-- a cell is open to every seat that has it in range, field 0 or 1 of a slot to a seat that owns the
-- slot strongly, or is under a strong or a weak snapshot of it
abbrev pub CanLoad : Shape → CoreView → Place → Type 0
CanLoad z v place = IsReadable z v (strong_place place)
