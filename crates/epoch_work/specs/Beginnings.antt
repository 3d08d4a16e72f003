-- With how many slots a count is begun, and what it comes to.
use Rattle.std.specs.Prelude.{ℕ, ◌≡◌, ◌<◌, Some}
use Rattle.std.specs.declared.option.Option.{Option}
use Rattle.cell_reports.specs.Last.{IsLastRoot}
use Rattle.cell_reports.specs.Refusals.{HasMissedAll, HasSpentAll}
use Rattle.cell_reports.specs.cdrc_text.Text.{IsReport}
use Rattle.cell_reports.specs.declared.counted.EpochCounted.{EpochCounted}
use Rattle.cell_reports.specs.declared.counted.EpochCountError.{EpochCountError}
use Rattle.cell_reports.specs.declared.counted.EpochCountError.TheVariants as uncounted
use Rattle.file_work.specs.Limits.{AreSlots, most_of}
use Rattle.file_work.specs.lane_work.Sizes.{texts_in}
use Rattle.file_work.specs.lane_work.declared.work.Work.{Work}

-- The work was counted on a domain of slots as they are asked for: the report and seat 0 are those of it.
pub record IsCountOf (work : Work) (lanes : ℕ) (asked : Option ℕ) (counted : EpochCounted)
    : Type 0 where
  pub slots : ℕ
  pub opened : AreSlots asked (most_of work) slots
  pub report : IsReport (texts_in work) work.rounds counted.text.items
  pub root : IsLastRoot work lanes slots counted.root

-- Why the work wasn't counted. A seat found each slot taken only where fewer slots were asked for than serve.
abbrev pub IsWhyStopped : Work → ℕ → Option ℕ → EpochCountError → Type 0
IsWhyStopped work lanes asked uncounted.OutOfMemory = Unit {0}
IsWhyStopped work lanes asked (uncounted.Spent seat) =
    (slots : ℕ) × AreSlots asked (most_of work) slots × HasSpentAll work lanes slots seat
IsWhyStopped work lanes asked (uncounted.Full seat) =
    (slots : ℕ) × (asked ≡ Some slots) × (slots < most_of work)
    × HasMissedAll work lanes slots seat
