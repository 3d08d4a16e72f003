use Rattle.std.proofs.Common.{rules}
use Rattle.step_lines.proofs.arguments.parse_number.Goals as goal

pub returns-in-None : goal.returns-in-None
returns-in-None c n spells = c.in-None.ensures.none (search rules) n spells
