-- Which field of the shape of a domain under epochs, or of its quotas, is out of its range.
use Rattle.std.specs.Prelude.{◌≤◌, List, All, ⊤}
use Rattle.core_functions.specs.core_events.plain_state.Limits.{most_seats, most_slots}
use Rattle.core_functions.specs.core_events.declared.shape.Quota.{Quota}
use Rattle.core_functions.specs.core_events.declared.shape.ShapeField.{ShapeField}
use Rattle.core_functions.specs.core_events.declared.shape.ShapeField.TheVariants.{Seats, Slots, Cells, WeakCells, Batch, Quotas}
use Rattle.core_functions.specs.Fields.{earlier}
use Rattle.epoch_core.specs.Runs.{AreQuotas, most_cells}
use Rattle.epoch_core.specs.declared.shape.EpochShape.{EpochShape}

-- the field is in its range. A domain under epochs has no weak cells and no batch
abbrev pub IsInRange : EpochShape → List Quota → ShapeField → Type 0
IsInRange z qs Seats = (1 ≤ z.seats) × (z.seats ≤ most_seats)
IsInRange z qs Slots = (1 ≤ z.slots) × (z.slots ≤ most_slots)
IsInRange z qs Cells = z.cells ≤ most_cells
IsInRange z qs WeakCells = ⊤
IsInRange z qs Batch = ⊤
IsInRange z qs Quotas = AreQuotas z qs

-- it is the first that is out of its range
abbrev pub IsFirstBad : EpochShape → List Quota → ShapeField → Type 0
IsFirstBad z qs f = All (IsInRange z qs) (earlier f) × (IsInRange z qs f → ⊥)
