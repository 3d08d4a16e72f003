use Rattle.script_law.proofs.Fresh.{fresh_alike, fresh_orderly}
use Rattle.script_law.proofs.laws.fresh_desks_are_alike.Goals as goal

pub returns : goal.returns
returns c = record { alike = fresh_alike; orderly = fresh_orderly }
