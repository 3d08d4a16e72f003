-- A head that is put into a cell.
use Rattle.std.specs.Prelude.{◌≡◌, List, [], ◌∷◌, ◌++◌, Option, Some, None, Result, Ok, Err}
use Rattle.cell_making.specs.cell_calls.Cells.{BindsAlone}
use Rattle.cell_making.specs.cell_calls.cell_law.Views.{TellsNone}
use Rattle.cell_making.specs.cell_calls.cell_protocol.declared.law.CellLaw.{CellLaw}
use Rattle.cell_making.specs.epoch_refs.epoch_domain.Domains.{DomainState}
use Rattle.cell_making.specs.Making.{candidate_in}
use Rattle.cell_making.specs.cell_calls.cell_law.declared.view.View.{View}
use Rattle.cell_making.specs.cell_calls.cell_law.directory_law.Payloads.{Text}
use Rattle.cell_making.specs.cell_calls.cell_law.plain_state.declared.slot.SlotId.{SlotId}
use Rattle.cell_making.specs.counted_handles.Handles.{Handle}
use Rattle.cell_making.specs.epoch_refs.epoch_domain.Seats.{SeatState}
use Rattle.cell_intern.specs.Interning.{Has}
use Rattle.cell_intern.specs.declared.refusal.InternError.{InternError}
use Rattle.cell_intern.specs.declared.refusal.InternError.TheVariants as refused

-- The head was put into a cell, in the life in which the seat had it; or it was given up, and the seat has the record
-- that it found, which only another seat can have put there.
abbrev pub IsPlaced : DomainState CellLaw → Text → SlotId → Option Handle → SeatState View
    → SeatState View → Type 0
IsPlaced d text head None old new =
    new.view.client.bound ≡ candidate_in head text old ∷ old.view.client.bound
IsPlaced d text head (Some found) old new = Has text found.slot new × ¬ (BindsAlone d old)

-- Nothing was put into a cell: for want of an add, where another seat's record was found, or of memory, where the view
-- tells of no record.
abbrev pub IsUnplaced : DomainState CellLaw → Text → InternError → SeatState View → SeatState View
    → Type 0
IsUnplaced d text refused.AddsSpent old new =
    (new.view.client.bound ≡ old.view.client.bound) × ¬ (BindsAlone d old)
IsUnplaced d text refused.OutOfMemory old new =
    (new.view.client.bound ≡ old.view.client.bound) × TellsNone new.view.client text
IsUnplaced d text refused.MakesSpent old new = ⊥
IsUnplaced d text refused.Full old new = ⊥

-- with the reference that a call answers
abbrev pub found_then : Option Handle → List SlotId → List SlotId
found_then None xs = xs
found_then (Some found) xs = xs ++ found.slot ∷ []

abbrev pub owned_then : {E : Type 0} → Result (Option Handle) E → List SlotId → List SlotId
owned_then (Ok found) xs = found_then found xs
owned_then (Err error) xs = xs
