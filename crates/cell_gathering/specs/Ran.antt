-- Lanes that have run to their ends.
use Rattle.std.specs.Prelude.{ℕ, ◌≡◌, ◌+◌, ◌<◌, List, [], length, slice_index_or}
use Rattle.cell_lanes.specs.Lanes.{CountsTickets, lane_tickets}
use Rattle.cell_lanes.specs.Ready.{IsReady}
use Rattle.cell_rest.specs.cdrc_text.Tally.{count_of, total_of}
use Rattle.cell_rest.specs.cell_law.declared.view.View.{View}
use Rattle.cell_lanes.specs.cell_calls.cell_protocol.declared.law.CellLaw.{CellLaw}
use Rattle.cell_lanes.specs.epoch_refs.epoch_domain.Domains.{DomainState}
use Rattle.cell_lanes.specs.epoch_refs.epoch_domain.Seats.{SeatState}
use Rattle.cell_lanes.specs.lane_work.declared.lane.Lane.{Lane}
use Rattle.cell_lanes.specs.lane_work.declared.work.Work.{Work}
use Rattle.cell_gathering.specs.declared.done.Done.{Done}

-- the lane of number n, which has counted nothing and keeps nothing
pub record IsNewLane (n : ℕ) (lane : Lane) : Type 0 where
  pub number : lane.number ≡ n
  pub counts : (w : List ℕ) → count_of lane.tally w ≡ 0
  pub total : total_of lane.tally ≡ 0
  pub kept : lane.keeper.kept.items ≡ []

-- the seat owns nothing, and its view lists no head as bound
pub record HasNothing (seat : SeatState View) : Type 0 where
  pub owned : seat.view.core.owned ≡ []
  pub bound : seat.view.client.bound ≡ []
  pub joined : seat.view.client.joined ≡ []

-- From a seat that had nothing, and the new lane of number n, one of so many, a lane has counted the words of the files
-- of its tickets. Its seat has the number after the lane's, and is in the middle of nothing.
pub record HasRun (d : DomainState CellLaw) (work : Work) (lanes n : ℕ) (one : Done)
    : Type 0 where
  pub begun : SeatState View
  pub lane : Lane
  pub seat_new : HasNothing begun
  pub lane_new : IsNewLane n lane
  pub counts :
      CountsTickets d work (lane_tickets work lanes n) begun one.seat lane one.lane
  pub ready : IsReady d one.seat
  pub seat : one.seat.view.core.seat ≡ n + 1

-- These are all lanes of a domain, at least one, in order. Beside seat 0 it has no other seats.
pub record EachRan (d : DomainState CellLaw) (work : Work) (lanes : ℕ) (done : List Done)
    : Type 0 where
  pub some : 0 < lanes
  pub many : length done ≡ lanes
  pub seats : d.shape.seats ≡ lanes + 1
  pub each : (i : ℕ) (other : Done) → i < lanes
      → HasRun d work lanes i (slice_index_or done i other)
