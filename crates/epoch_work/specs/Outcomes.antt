-- What was counted over regions, and what is so of a seat that was refused.
use Rattle.std.specs.Prelude.{ℕ, List, map}
use Rattle.cell_reports.specs.Last.{IsLastRoot}
use Rattle.cell_reports.specs.Refusals.{HasMissedAll, HasSpentAll}
use Rattle.cell_reports.specs.cdrc_text.Pieces.{pieces_of}
use Rattle.cell_reports.specs.cdrc_text.Text.{IsText}
use Rattle.cell_reports.specs.cell_lanes.cell_calls.cell_law.declared.view.View.{View}
use Rattle.cell_reports.specs.epoch_refs.epoch_domain.Seats.{SeatState}
use Rattle.file_work.specs.Limits.{AreSlotsFor, AsksTooFewSlots, IsWithinLimits, IsWorkOn}
use Rattle.file_work.specs.declared.plan.Plan.{Plan}
use Rattle.file_work.specs.lane_work.declared.work.Work.{Work}
use Rattle.epoch_work.specs.declared.outcome.EpochDone.{EpochDone}

-- The contents were counted: the bytes are their text, and seat 0 is that of the work on them, on a domain of slots as
-- they were asked for. By its view it bound no word, and the other seats bound each distinct one once.
pub record IsCounted (plan : Plan) (contents : List (List ℕ)) (done : EpochDone) : Type 0 where
  pub within : IsWithinLimits plan.rounds contents
  pub text : IsText contents plan.rounds done.bytes.items
  pub work : Work
  pub on : IsWorkOn plan.rounds contents work
  pub slots : ℕ
  pub opened : AreSlotsFor plan (map pieces_of contents) slots
  pub root : IsLastRoot work plan.lanes slots done.root

-- this seat of a domain for the work on the contents has used all of its adds
pub record IsSpentOn (plan : Plan) (contents : List (List ℕ)) (seat : SeatState View)
    : Type 0 where
  pub work : Work
  pub on : IsWorkOn plan.rounds contents work
  pub slots : ℕ
  pub opened : AreSlotsFor plan (map pieces_of contents) slots
  pub spent : HasSpentAll work plan.lanes slots seat

-- fewer slots were asked for than serve, and this seat of a domain for the work on the contents found each one taken
pub record IsFull (plan : Plan) (contents : List (List ℕ)) (seat : SeatState View) : Type 0 where
  pub few : AsksTooFewSlots plan (map pieces_of contents)
  pub work : Work
  pub on : IsWorkOn plan.rounds contents work
  pub full : HasMissedAll work plan.lanes few.0 seat
