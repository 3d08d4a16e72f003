-- What a load of a weak reference asks of its place.
use Rattle.protected_loads.specs.core_events.declared.shape.Shape.{Shape}
use Rattle.protected_loads.specs.core_events.declared.view.CoreView.{CoreView}
use Rattle.protected_loads.specs.core_events.Views.{IsReadable}
use Rattle.protected_loads.specs.counted_handles.declared.place.WeakPlace.{WeakPlace}
use Rattle.atomic_weak.specs.Places.{weak_place}

-- a weak cell is open to every seat that has it in range, the weak field of a slot to a seat that
-- owns the slot strongly, or is under a strong or a weak snapshot of it
abbrev pub CanLoad : Shape → CoreView → WeakPlace → Type 0
CanLoad z v place = IsReadable z v (weak_place place)
