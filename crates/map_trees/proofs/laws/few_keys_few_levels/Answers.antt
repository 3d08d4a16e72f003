use Rattle.map_trees.proofs.laws.few_keys_few_levels.Goals as goal
use Rattle.map_trees.proofs.Sizes.{keys_of_height, levels}

pub returns-clause-fewest : goal.returns-clause-fewest
returns-clause-fewest c = keys_of_height

pub returns-clause-levels : goal.returns-clause-levels
returns-clause-levels c = levels
