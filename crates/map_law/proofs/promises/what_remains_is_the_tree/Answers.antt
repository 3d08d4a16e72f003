use Rattle.map_law.proofs.promises.what_remains_is_the_tree.Goals as goal
use Rattle.map_law.proofs.Remains.{remains}

pub returns : goal.returns
returns c = remains
