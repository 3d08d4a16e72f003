use Rattle.script_lines.proofs.Unique.{one-line}
use Rattle.script_lines.proofs.laws.line_is_one.Goals as goal

pub returns : goal.returns
returns c = one-line
