-- How one history goes on from another.
use Rattle.std.specs.Prelude.{◌≡◌, List, ◌++◌}
use Rattle.core_law.specs.core_events.declared.act.Event.{Event}

-- These events, the latest first, are those of the past and what happened since.
abbrev pub GoesOnFrom : List Event → List Event → Type 0
GoesOnFrom past events = (since : List Event) × (events ≡ since ++ past)
