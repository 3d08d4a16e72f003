use Rattle.std.proofs.Common.{arith}
use Rattle.step_lines.proofs.ShortRows.{number_alone}
use Rattle.step_lines.proofs.acts.one_number.Goals as goal

pub returns : goal.returns
returns c = number_alone c.args.words.now (omega arith) c.parse_number.result c.parse_number.ensures
