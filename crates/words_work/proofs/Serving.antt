-- When a count is begun anew.
use Rattle.std.proofs.Common.{◌≡◌, ℕ, List, arith}
use Rattle.std.specs.Prelude.{IfErr, None, Ok, Err, Result}
use Rattle.lane_reports.specs.queue_law.declared.view.Form.{Form}
use Rattle.lane_reports.specs.Refusals.{IsWhyNothing}
use Rattle.lane_reports.specs.declared.counted.Counted.{Counted}
use Rattle.lane_reports.specs.declared.counted.CountError.{CountError}
use Rattle.lane_reports.specs.declared.counted.CountError.TheVariants as uncounted
use Rattle.lane_reports.specs.lane_files.lane_work.declared.work.Work.{Work}
use Rattle.words_work.specs.Beginnings.{IsWhyStopped}
use Rattle.file_work.specs.Limits.{most_of}

-- a count on as many slots as serve is never refused as full
pub why_anew : (fits : List ℕ → Type 0) (work : Work) (lanes most : ℕ) (form : Form)
    (r : Result Counted CountError) → most ≡ most_of work
    → IfErr r (IsWhyNothing fits work lanes most form)
    → IfErr r (IsWhyStopped fits work lanes form None)
why_anew fits work lanes most form (Ok counted) is why = tt
why_anew fits work lanes most form (Err uncounted.OutOfMemory) is why = tt
why_anew fits work lanes most form (Err (uncounted.Spent seat)) is why =
    (most, omega (arith, is), why)
why_anew fits work lanes most form (Err (uncounted.Full seat)) is why =
    let few = why.2 in absurd (omega (arith, is, few))
