use Rattle.std.proofs.Common.{arith}
use Rattle.step_lines.specs.Beyond.{IsBeyondContent, IsBeyondPlace}
use Rattle.step_lines.proofs.Readings.{reads_both}
use Rattle.step_lines.proofs.Rows.{swap_refused}
use Rattle.step_lines.proofs.Words.{ContentAt, PlaceAt}
use Rattle.step_lines.proofs.acts.swap.Goals as goal

pub returns-in_err-place : goal.returns-in_err-place
returns-in_err-place c =
    let words = c.args.words.now in
    let all = reads_both (PlaceAt words 0) IsBeyondPlace (ContentAt words 1) IsBeyondContent
    c.parse_place.result c.parse_content.result c.both.result c.both.ensures.ok c.both.ensures.syntax c.both.ensures.range
    c.parse_place.ensures c.parse_content.ensures in
    swap_refused words c.from_residual.result c.in_err-place.field-0.0 c.from_residual.ensures.1 (omega arith) (rw c.in_err-place.was at all)
