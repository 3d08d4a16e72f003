use Rattle.std.proofs.Common.{arith}
use Rattle.step_lines.specs.Beyond.{IsBeyondPlace, IsTooLarge}
use Rattle.step_lines.proofs.Readings.{reads_both}
use Rattle.step_lines.proofs.Rows.{check_refused}
use Rattle.step_lines.proofs.Words.{NumberAt, PlaceAt}
use Rattle.step_lines.proofs.acts.check.Goals as goal

pub returns-in_err-note : goal.returns-in_err-note
returns-in_err-note c =
    let words = c.args.words.now in
    let all = reads_both (NumberAt words 0) IsTooLarge (PlaceAt words 1) IsBeyondPlace
    c.parse_number.result c.parse_place.result c.both.result c.both.ensures.ok c.both.ensures.syntax c.both.ensures.range
    c.parse_number.ensures c.parse_place.ensures in
    check_refused words c.from_residual.result c.in_err-note.field-0.0 c.from_residual.ensures.1 (omega arith) (rw c.in_err-note.was at all)
