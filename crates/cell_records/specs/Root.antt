-- A seat that is alone with records in cells.
use Rattle.cell_intern.specs.cell_calls.Cells.{IsOver}
use Rattle.cell_intern.specs.cell_calls.cell_law.declared.view.View.{View}
use Rattle.cell_intern.specs.cell_calls.cell_protocol.declared.law.CellLaw.{CellLaw}
use Rattle.cell_intern.specs.epoch_refs.Walks.{IsFree}
use Rattle.cell_intern.specs.epoch_refs.epoch_domain.Domains.{DomainState}
use Rattle.cell_intern.specs.epoch_refs.epoch_domain.Seats.{SeatState}
use Rattle.cell_intern.specs.epoch_refs.epoch_rule.Views.{IsAlone}

-- It is seat 0, alone, in the middle of nothing and in no region, in a domain that keeps records in its cells.
pub record IsRoot (d : DomainState CellLaw) (seat : SeatState View) : Type 0 where
  pub free : IsFree d seat
  pub over : IsOver d
  pub alone : IsAlone seat.view
