-- When a lane may count.
use Rattle.std.specs.Prelude.{ℕ, ◌≡◌, ◌+◌, ◌<◌, ◌≤◌, ◌^◌, false, length}
use Rattle.cell_intern.specs.cell_calls.Cells.{IsOver}
use Rattle.cell_intern.specs.cell_calls.cell_law.declared.view.View.{View}
use Rattle.cell_intern.specs.cell_calls.cell_protocol.declared.law.CellLaw.{CellLaw}
use Rattle.cell_intern.specs.epoch_refs.Walks.{IsFree}
use Rattle.cell_intern.specs.epoch_refs.epoch_domain.Domains.{DomainState}
use Rattle.cell_intern.specs.epoch_refs.epoch_domain.Seats.{SeatState}
use Rattle.lane_work.specs.cdrc_text.Tally.{total_of}
use Rattle.lane_work.specs.declared.lane.Lane.{Lane}

-- the seat is in the middle of nothing, and its region is closed, in a domain that keeps records in its cells, which
-- aren't being cleared
pub record IsReady (d : DomainState CellLaw) (seat : SeatState View) : Type 0 where
  pub free : IsFree d seat
  pub over : IsOver d
  pub is_open : seat.view.client.cleared ≡ false

-- for so many pieces there is room in the lane's tally and in the numbers of its turns, and its seat may put as many
-- heads more into cells
pub record CanCount (pieces : ℕ) (seat : SeatState View) (lane : Lane) : Type 0 where
  pub tally : total_of lane.tally + pieces ≤ 2 ^ 63
  pub turns : lane.turn + pieces < 2 ^ 64
  pub binds : length seat.view.client.bound + pieces ≤ seat.view.client.grant
