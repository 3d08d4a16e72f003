use Rattle.map_trees.proofs.laws.joins_are_balanced.Goals as goal
use Rattle.map_trees.proofs.Joins.{join_pairs, join_joined}

pub returns-clause-pairs : goal.returns-clause-pairs
returns-clause-pairs c = join_pairs

pub returns-clause-balanced : goal.returns-clause-balanced
returns-clause-balanced c = join_joined
