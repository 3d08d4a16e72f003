-- Why a text was not interned.
use Rattle.cell_making.specs.Making.{MissesWithin}
use Rattle.cell_making.specs.declared.refusals.RecordError.{RecordError}
use Rattle.cell_making.specs.declared.refusals.RecordError.TheVariants as unmade
use Rattle.cell_making.specs.cell_calls.cell_law.declared.view.View.{View}
use Rattle.cell_making.specs.cell_calls.cell_protocol.declared.law.CellLaw.{CellLaw}
use Rattle.cell_making.specs.epoch_refs.Calls.{IsSpent}
use Rattle.cell_making.specs.epoch_refs.Making.{HasNoMake}
use Rattle.cell_making.specs.epoch_refs.epoch_domain.Domains.{DomainState}
use Rattle.cell_making.specs.epoch_refs.epoch_domain.Seats.{SeatState}
use Rattle.cell_intern.specs.declared.refusal.InternError.{InternError}
use Rattle.cell_intern.specs.declared.refusal.InternError.TheVariants as refused

-- a record that wasn't made
abbrev pub of_record : RecordError → InternError
of_record unmade.MakesSpent = refused.MakesSpent
of_record unmade.AddsSpent = refused.AddsSpent
of_record unmade.Full = refused.Full
of_record unmade.OutOfMemory = refused.OutOfMemory

-- what is so where a text was not interned
abbrev pub IsWhy : DomainState CellLaw → InternError → SeatState View → SeatState View → Type 0
IsWhy d refused.MakesSpent old new = HasNoMake new.view.core
IsWhy d refused.AddsSpent old new = IsSpent new.view.core
IsWhy d refused.Full old new = MissesWithin d old new
IsWhy d refused.OutOfMemory old new = Unit {0}
