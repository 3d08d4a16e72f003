-- How one history goes on from another.
use Rattle.std.specs.Prelude.{◌≡◌, List, ◌++◌}
use Rattle.epoch_core.specs.declared.act.EpochEvent.{EpochEvent}

-- These events, the latest first, are those of the past and what happened since.
abbrev pub GoesOnFrom : List EpochEvent → List EpochEvent → Type 0
GoesOnFrom past events = (since : List EpochEvent) × (events ≡ since ++ past)
