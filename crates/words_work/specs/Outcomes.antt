-- What was counted over announcements and a queue, and what is so of a seat that was refused.
use Rattle.std.specs.Prelude.{ℕ, ◌≡◌, List, map}
use Rattle.lane_reports.specs.acquire_retire.Seats.{SeatState}
use Rattle.lane_reports.specs.words_law.Views.{View}
use Rattle.lane_reports.specs.cdrc_text.Pieces.{pieces_of}
use Rattle.lane_reports.specs.cdrc_text.Text.{IsText}
use Rattle.lane_reports.specs.lane_files.lane_work.declared.work.Work.{Work}
use Rattle.lane_reports.specs.Counting.{CountsAll}
use Rattle.lane_reports.specs.HolderCounts.{CountsHolders}
use Rattle.lane_reports.specs.Refusals.{HasSpentAll, IsWhyNothing}
use Rattle.lane_reports.specs.Reporting.{IsLast}
use Rattle.lane_reports.specs.declared.counted.CountError.TheVariants as uncounted
use Rattle.file_work.specs.Limits.{AreSlotsFor, AsksTooFewSlots, IsWithinLimits, IsWorkOn}
use Rattle.file_work.specs.declared.plan.Plan.{Plan}
use Rattle.words_work.specs.declared.outcome.WordsDone.{WordsDone}

-- The contents were counted: the bytes are their text, and seat 0 and the tallies are those of the work on them, on a
-- domain of slots as they were asked for. Seat 0 counted the holders, and its queue was of the form that was asked for.
pub record IsCounted (plan : Plan) (contents : List (List ℕ)) (done : WordsDone) : Type 0 where
  pub within : IsWithinLimits plan.rounds contents
  pub text : IsText contents plan.rounds done.bytes.items
  pub work : Work
  pub on : IsWorkOn plan.rounds contents work
  pub counts : CountsAll work done.root done.tallies.items
  pub holders : CountsHolders work done.root done.bytes.items
  pub slots : ℕ
  pub opened : AreSlotsFor plan (map pieces_of contents) slots
  pub root : IsLast work plan.lanes slots plan.form done.root

-- this seat of a domain for the work on the contents has used all of its adds
pub record IsSpentOn (plan : Plan) (contents : List (List ℕ)) (seat : SeatState View)
    : Type 0 where
  pub work : Work
  pub on : IsWorkOn plan.rounds contents work
  pub slots : ℕ
  pub opened : AreSlotsFor plan (map pieces_of contents) slots
  pub spent : HasSpentAll work plan.lanes slots plan.form seat

module _ (fits : List ℕ → Type 0) where
  -- fewer slots were asked for than serve, and this seat of a domain for the work on the contents found each one taken
  pub record IsFull (plan : Plan) (contents : List (List ℕ)) (seat : SeatState View) : Type 0 where
    pub few : AsksTooFewSlots plan (map pieces_of contents)
    pub work : Work
    pub on : IsWorkOn plan.rounds contents work
    pub full : IsWhyNothing fits work plan.lanes few.0 plan.form (uncounted.Full seat)
