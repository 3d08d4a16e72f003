use Rattle.std.proofs.Common.{arith}
use Rattle.step_lines.specs.Beyond.{IsTooLarge, IsTooLargeValue}
use Rattle.step_lines.proofs.Readings.{reads_both}
use Rattle.step_lines.proofs.Rows.{fill_refused}
use Rattle.step_lines.proofs.Words.{NumberAt}
use Rattle.step_lines.proofs.acts.fill.Goals as goal

pub returns-in_err-word : goal.returns-in_err-word
returns-in_err-word c =
    let words = c.args.words.now in
    let all = reads_both (NumberAt words 0) IsTooLarge (NumberAt words 1) IsTooLargeValue
    c.parse_number.result c.parse_value.result c.both.result c.both.ensures.ok c.both.ensures.syntax c.both.ensures.range
    c.parse_number.ensures c.parse_value.ensures in
    fill_refused words c.from_residual.result c.in_err-word.field-0.0 c.from_residual.ensures.1 (omega arith) (rw c.in_err-word.was at all)
