use Rattle.map_trees.proofs.laws.changes_keep_trees_shaped.Goals as goal
use Rattle.map_trees.proofs.Changing.{alters, shaped_parts}

pub returns-clause-change : goal.returns-clause-change
returns-clause-change c = alters

pub returns-clause-parts : goal.returns-clause-parts
returns-clause-parts c = shaped_parts
