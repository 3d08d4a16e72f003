-- Which field of a shape, its quotas and its grants is out of its range.
use Rattle.std.specs.Prelude.{◌≤◌, List, [], ◌∷◌, All}
use Rattle.core_events.specs.plain_state.Limits.{most_batch, most_cells, most_seats, most_slots, most_weak_cells}
use Rattle.core_events.specs.declared.shape.Shape.{Shape}
use Rattle.core_events.specs.declared.shape.ShapeField.{ShapeField}
use Rattle.core_events.specs.declared.shape.ShapeField.TheVariants.{Seats, Slots, Cells, WeakCells, Batch, Quotas}
use Rattle.core_events.specs.Views.{Terms}
use Rattle.core_events.specs.Runs.{AreTerms}

-- the field is in its range. The quotas are one for each seat, none above 2^40, and all grants make no more than that
abbrev pub IsInRange : Shape → Terms → ShapeField → Type 0
IsInRange z ts Seats = (1 ≤ z.seats) × (z.seats ≤ most_seats)
IsInRange z ts Slots = (1 ≤ z.slots) × (z.slots ≤ most_slots)
IsInRange z ts Cells = z.cells ≤ most_cells
IsInRange z ts WeakCells = z.weak_cells ≤ most_weak_cells
IsInRange z ts Batch = (1 ≤ z.batch) × (z.batch ≤ most_batch)
IsInRange z ts Quotas = AreTerms z ts

-- the fields before it
abbrev pub earlier : ShapeField → List ShapeField
earlier Seats = []
earlier Slots = Seats ∷ []
earlier Cells = Seats ∷ Slots ∷ []
earlier WeakCells = Seats ∷ Slots ∷ Cells ∷ []
earlier Batch = Seats ∷ Slots ∷ Cells ∷ WeakCells ∷ []
earlier Quotas = Seats ∷ Slots ∷ Cells ∷ WeakCells ∷ Batch ∷ []

-- it is the first that is out of its range
abbrev pub IsFirstBad : Shape → Terms → ShapeField → Type 0
IsFirstBad z ts f = All (IsInRange z ts) (earlier f) × (IsInRange z ts f → ⊥)
