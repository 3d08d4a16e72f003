use Rattle.map_law.proofs.promises.trees_are_not_written.Goals as goal
use Rattle.map_law.proofs.Unwritten.{inside_none, set_outside}

pub returns-clause-none : goal.returns-clause-none
returns-clause-none c = inside_none

pub returns-clause-set : goal.returns-clause-set
returns-clause-set c = set_outside
