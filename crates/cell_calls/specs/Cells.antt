-- A domain that keeps records in all its cells, and whether a seat may put one head more into a cell.
use Rattle.std.specs.Prelude.{ℕ, ◌≡◌, ◌<◌, ◌≤◌, sum}
use Rattle.cell_protocol.specs.cell_law.directory_law.Cells.{Area}
use Rattle.cell_protocol.specs.cell_law.Cells.{range, BindsAlone as AllIsGranted}
use Rattle.cell_protocol.specs.cell_law.Views.{MayBind}
use Rattle.cell_protocol.specs.cell_law.declared.view.View.{View}
use Rattle.cell_protocol.specs.declared.law.CellLaw.{CellLaw}
use Rattle.epoch_refs.specs.epoch_domain.Domains.{DomainState}
use Rattle.epoch_refs.specs.epoch_domain.Seats.{SeatState}

-- the cells whose law this is, and how many heads each seat may put there
abbrev pub area_of : CellLaw → Area
area_of law = range law.first law.cells law.grants.items

-- they are all cells of the domain, at least one, and seats may put no more heads there than there are cells
pub record IsOver (d : DomainState CellLaw) : Type 0 where
  pub first : d.protocol.first ≡ 0
  pub cells : d.protocol.cells ≡ d.shape.cells
  pub some_cells : 0 < d.shape.cells
  pub few : sum d.protocol.grants.items ≤ d.shape.cells

-- the seat may put one head more into a cell
abbrev pub HasBind : SeatState View → Type 0
HasBind seat = MayBind seat.view.client

-- whatever may be put into cells is put there by this seat: all that was granted was granted to it
abbrev pub BindsAlone : DomainState CellLaw → SeatState View → Type 0
BindsAlone d seat = AllIsGranted (area_of d.protocol) seat.view.client
