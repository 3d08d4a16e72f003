-- How the lanes end.
use Rattle.std.specs.Prelude.{ℕ, ◌≡◌, ◌<◌, List, Result, Ok, Err, length, slice_index_or}
use Rattle.lane_files.specs.acquire_retire.Domains.{DomainState}
use Rattle.lane_files.specs.acquire_retire.Seats.{SeatState}
use Rattle.lane_files.specs.words_law.Views.{View}
use Rattle.lane_files.specs.words_protocol.declared.law.WordsLaw.{WordsLaw}
use Rattle.lane_files.specs.declared.shared.Shared.{Shared}
use Rattle.lane_files.specs.Ready.{IsReady}
use Rattle.lane_files.specs.lane_work.declared.lane.Lane.{Lane}
use Rattle.lane_files.specs.declared.refusal.LaneStop.{LaneStop}
use Rattle.lane_files.specs.lane_work.declared.work.Work.{Work}
use Rattle.lane_files.specs.Lanes.{RunsLane, StopsLane, beside_tickets}
use Rattle.lane_domain.specs.declared.ending.LaneEnd.{LaneEnd}
use Rattle.lane_domain.specs.Beginning.{Attaches, IsNewLane}

module _ (fits : List ℕ → Type 0) (d : DomainState WordsLaw) (work : Work) where
  -- it counted files until no ticket was left, or stopped before
  abbrev pub RunsOrStops : {T : Type 0} → Result T LaneStop → SeatState View → SeatState View → Lane
      → Lane → Type 0
  RunsOrStops (Ok done) old new before after = RunsLane work old new before after
  RunsOrStops (Err stop) old new before after = StopsLane fits d work stop old new before after

module _ (fits : List ℕ → Type 0) (d : DomainState WordsLaw) (on : Shared) (work : Work) where
  -- The lane of this number attached its seat, and ran from there. The seat is ready again. What it has beside its
  -- references, its tickets and what it is to destroy is as it was.
  pub record EndsLane (number : ℕ) (seat : SeatState View) (ending : LaneEnd) : Type 0 where
    pub begun : SeatState View
    pub lane : Lane
    pub is_new : IsNewLane number lane
    pub attaches : Attaches fits d seat begun
    pub runs : RunsOrStops fits d work ending.end begun ending.seat lane ending.lane
    pub same : beside_tickets ending.seat.view.core ≡ beside_tickets seat.view.core
    pub ready : IsReady d on ending.seat

  -- each lane ended so, in the order of their seats
  pub record EndAll (seats : List (SeatState View)) (endings : List LaneEnd) : Type 0 where
    pub many : length endings ≡ length seats
    pub each :
        (i : ℕ) (seat : SeatState View) (ending : LaneEnd) → i < length seats
        → EndsLane i (slice_index_or seats i seat) (slice_index_or endings i ending)
