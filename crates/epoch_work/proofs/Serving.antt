-- When a count is begun anew.
use Rattle.std.proofs.Common.{◌≡◌, ℕ, ◌≤◌, arith}
use Rattle.std.specs.Prelude.{IfErr, IfOk, None, Ok, Err, Result}
use Rattle.cell_reports.specs.Last.{IsLastRoot}
use Rattle.cell_reports.specs.Refusals.{IsWhyNothing}
use Rattle.cell_reports.specs.cdrc_text.Text.{IsReport}
use Rattle.cell_reports.specs.declared.counted.EpochCounted.{EpochCounted}
use Rattle.cell_reports.specs.declared.counted.EpochCountError.{EpochCountError}
use Rattle.cell_reports.specs.declared.counted.EpochCountError.TheVariants as uncounted
use Rattle.file_work.specs.Limits.{most_of}
use Rattle.file_work.specs.lane_work.Sizes.{texts_in}
use Rattle.file_work.specs.lane_work.declared.work.Work.{Work}
use Rattle.file_work.proofs.Sizes.{parts_fit}
use Rattle.epoch_work.specs.Beginnings.{IsCountOf, IsWhyStopped}

-- a count on as many slots as serve is never refused as full
pub why_anew : (work : Work) (lanes most : ℕ) (r : Result EpochCounted EpochCountError)
    → most ≡ most_of work → IfErr r (IsWhyNothing work lanes most)
    → IfErr r (IsWhyStopped work lanes None)
why_anew work lanes most (Ok counted) is why = tt
why_anew work lanes most (Err uncounted.OutOfMemory) is why = tt
why_anew work lanes most (Err (uncounted.Spent seat)) is why =
    (most, omega (arith, is), why)
why_anew work lanes most (Err (uncounted.Full seat)) is why =
    let few = why.few in let fit = parts_fit work in absurd (omega (arith, is, few, fit))

-- a count on so many slots is one on slots as they are asked for, where none are
pub done_anew : (work : Work) (lanes most : ℕ) (r : Result EpochCounted EpochCountError)
    → most ≡ most_of work
    → IfOk r (λ counted. IsReport (texts_in work) work.rounds counted.text.items)
    → IfOk r (λ counted. IsLastRoot work lanes most counted.root)
    → IfOk r (IsCountOf work lanes None)
done_anew work lanes most (Ok counted) is report root = record {
  slots = most;
  opened = omega (arith, is);
  report = report;
  root = root;
}
done_anew work lanes most (Err error) is report root = tt
