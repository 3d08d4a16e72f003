use Rattle.command_line.proofs.OneLine.{one_line}
use Rattle.command_line.proofs.laws.line_is_one.Goals as goal

pub returns : goal.returns
returns c options words parts others later last named = one_line options named words parts others later last
