use Rattle.std.proofs.Common.{refl}
use Rattle.command_line.proofs.asking.bulk_of.Goals as goal

pub returns-in_err-draws-clause-none : goal.returns-in_err-draws-clause-none
returns-in_err-draws-clause-none c none bulk is = c.in_err-draws.ensures.none refl bulk.draws is.0
