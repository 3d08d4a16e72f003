-- An audit of a whole state that has settled, and of which the law holds.
use Rattle.std.specs.Prelude.{ℕ, List}
use Rattle.cell_intern.specs.cell_calls.Cells.{area_of}
use Rattle.cell_intern.specs.cell_calls.cell_law.Law.{CellLaw as Law}
use Rattle.cell_intern.specs.cell_calls.cell_law.Views.{gone}
use Rattle.cell_intern.specs.cell_calls.cell_law.declared.view.View.{View}
use Rattle.cell_intern.specs.cell_calls.cell_protocol.declared.law.CellLaw.{CellLaw}
use Rattle.cell_rest.specs.Rest.{HasNullCells}
use Rattle.cell_rest.specs.directory_law.Bytes.{IsPiece, piece_weight}
use Rattle.epoch_alone.specs.Lone.{KnowsLaw}
use Rattle.epoch_alone.specs.Settled.{IsSettled}
use Rattle.cell_intern.specs.epoch_refs.epoch_domain.Domains.{DomainState}
use Rattle.cell_intern.specs.epoch_refs.epoch_domain.Seats.{SeatState}
use Rattle.cell_rest.specs.plain_audit.Audits.{IsAudit}
use Rattle.cell_rest.specs.plain_audit.heap_audit.declared.finding.Audit.{Audit}
use Rattle.cell_rest.specs.plain_audit.plain_state.Images.{IsImage}
use Rattle.cell_rest.specs.plain_audit.plain_state.declared.image.Heap.{Heap}

-- the law holds of the whole state, which the seat knows, with its view as the first
abbrev pub KnowsCells : DomainState CellLaw → SeatState View → Type 0
KnowsCells d seat = KnowsLaw IsPiece d (Law (area_of d.protocol)) gone seat.view

-- Nothing waits in that state, and what is owned there is what the seat owns. No cell holds anything. This is its
-- image, and the audit found this of it.
pub record IsAudited (d : DomainState CellLaw) (ranks : List ℕ) (seat : SeatState View)
    (image : Heap) (found : Audit) : Type 0 where
  pub law : KnowsCells d seat
  pub settled : IsSettled law.state seat.view.core.owned
  pub null : HasNullCells law.state
  pub image_is : IsImage law.state image
  pub audit : IsAudit piece_weight ranks law.state found
