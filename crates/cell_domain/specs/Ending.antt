-- How the lanes end.
use Rattle.std.specs.Prelude.{ℕ, ◌≡◌, ◌<◌, List, [], Result, Ok, Err, length, slice_index_or}
use Rattle.cell_lanes.specs.Lanes.{CountsTickets, lane_tickets}
use Rattle.cell_lanes.specs.Ready.{IsReady}
use Rattle.cell_lanes.specs.Stopping.{Stops}
use Rattle.cell_lanes.specs.cell_calls.cell_law.declared.view.View.{View}
use Rattle.cell_lanes.specs.cell_calls.cell_protocol.declared.law.CellLaw.{CellLaw}
use Rattle.cell_lanes.specs.declared.refusal.LaneStop.{LaneStop}
use Rattle.epoch_refs.specs.epoch_domain.Domains.{DomainState}
use Rattle.epoch_refs.specs.epoch_domain.Seats.{SeatState}
use Rattle.lane_work.specs.cdrc_text.Tally.{count_of, total_of}
use Rattle.lane_work.specs.declared.lane.Lane.{Lane}
use Rattle.lane_work.specs.declared.work.Work.{Work}
use Rattle.cell_domain.specs.Opened.{lane_words}
use Rattle.cell_domain.specs.declared.ending.LaneEnd.{LaneEnd}

-- a lane of this number that has counted nothing and keeps nothing
pub record IsNewLane (n : ℕ) (lane : Lane) : Type 0 where
  pub number : lane.number ≡ n
  pub turn : lane.turn ≡ 0
  pub counts : (w : List ℕ) → count_of lane.tally w ≡ 0
  pub total : total_of lane.tally ≡ 0
  pub kept : lane.keeper.kept.items ≡ []

module _ (d : DomainState CellLaw) (work : Work) (lanes : ℕ) where
  -- the lane of this number counted all its files, or stopped at some word of them
  abbrev pub CountsOrStops : {T : Type 0} → ℕ → Result T LaneStop → SeatState View → SeatState View
      → Lane → Lane → Type 0
  CountsOrStops number (Ok done) old new before after =
      CountsTickets d work (lane_tickets work lanes number) old new before after
  CountsOrStops number (Err stop) old new before after =
      Stops d (lane_words work lanes number) stop old new before after

  -- It did so from nothing, with the seat as it was given; and the seat is ready again.
  pub record EndsLane (number : ℕ) (seat : SeatState View) (ending : LaneEnd) : Type 0 where
    pub lane : Lane
    pub is_new : IsNewLane number lane
    pub runs : CountsOrStops number ending.end seat ending.seat lane ending.lane
    pub ready : IsReady d ending.seat

  -- each lane ended so, in the order of their seats
  pub record EndAll (seats : List (SeatState View)) (endings : List LaneEnd) : Type 0 where
    pub many : length endings ≡ length seats
    pub each :
        (i : ℕ) (seat : SeatState View) (ending : LaneEnd) → i < length seats
        → EndsLane i (slice_index_or seats i seat) (slice_index_or endings i ending)
