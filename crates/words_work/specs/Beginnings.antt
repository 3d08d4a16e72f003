-- With how many slots a count is begun, and what it comes to.
use Rattle.std.specs.Prelude.{ℕ, ◌≡◌, ◌≤◌, ◌<◌, List, Some, None}
use Rattle.std.specs.declared.option.Option.{Option}
use Rattle.lane_reports.specs.queue_law.declared.view.Form.{Form}
use Rattle.lane_reports.specs.cdrc_text.Text.{IsReport}
use Rattle.lane_reports.specs.lane_files.lane_work.declared.work.Work.{Work}
use Rattle.lane_reports.specs.lane_domain.Sizes.{texts_in}
use Rattle.lane_reports.specs.Counting.{CountsAll}
use Rattle.lane_reports.specs.HolderCounts.{CountsHolders}
use Rattle.lane_reports.specs.Refusals.{HasSpentAll, IsWhyNothing}
use Rattle.lane_reports.specs.Reporting.{IsLast}
use Rattle.lane_reports.specs.declared.counted.Counted.{Counted}
use Rattle.lane_reports.specs.declared.counted.CountError.{CountError}
use Rattle.lane_reports.specs.declared.counted.CountError.TheVariants as uncounted
use Rattle.file_work.specs.Limits.{AreSlots, most_of}

-- The work was counted on a domain of slots as they are asked for: the report, seat 0 and the tallies are those of it.
pub record IsCountOf (work : Work) (lanes : ℕ) (form : Form) (asked : Option ℕ) (counted : Counted)
    : Type 0 where
  pub slots : ℕ
  pub opened : AreSlots asked (most_of work) slots
  pub report : IsReport (texts_in work) work.rounds counted.text.items
  pub counts : CountsAll work counted.root counted.tallies.items
  pub holders : CountsHolders work counted.root counted.text.items
  pub root : IsLast work lanes slots form counted.root

-- Why the work wasn't counted. A seat found each slot taken only where fewer slots were asked for than serve.
abbrev pub IsWhyStopped : (List ℕ → Type 0) → Work → ℕ → Form → Option ℕ → CountError → Type 0
IsWhyStopped fits work lanes form asked uncounted.OutOfMemory = Unit {0}
IsWhyStopped fits work lanes form asked (uncounted.Spent seat) =
    (slots : ℕ) × AreSlots asked (most_of work) slots × HasSpentAll work lanes slots form seat
IsWhyStopped fits work lanes form asked (uncounted.Full seat) =
    (slots : ℕ) × (asked ≡ Some slots) × (slots < most_of work)
    × IsWhyNothing fits work lanes slots form (uncounted.Full seat)
