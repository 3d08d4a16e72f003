use Rattle.map_trees.proofs.laws.bumps_are_counted.Goals as goal
use Rattle.map_trees.proofs.Counting.{counted}

pub returns : goal.returns
returns c = counted
