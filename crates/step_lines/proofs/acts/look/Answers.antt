use Rattle.std.proofs.Common.{arith}
use Rattle.step_lines.proofs.Rows.{look_refused}
use Rattle.step_lines.proofs.acts.look.Goals as goal

pub returns-in_err-parse_place : goal.returns-in_err-parse_place
returns-in_err-parse_place c =
    let words = c.args.words.now in
    look_refused words c.from_residual.result c.in_err-parse_place.field-0.0 c.from_residual.ensures.1 (omega arith) (rw c.in_err-parse_place.was at c.parse_place.ensures)
