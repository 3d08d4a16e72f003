use Rattle.map_law.proofs.promises.the_root_has_a_balanced_tree.Goals as goal
use Rattle.map_law.proofs.Gives.{has_tree, node_trees}
use Rattle.map_law.proofs.OneTree.{one_tree}

pub returns-clause-tree : goal.returns-clause-tree
returns-clause-tree c = has_tree

pub returns-clause-nodes : goal.returns-clause-nodes
returns-clause-nodes c = node_trees

pub returns-clause-one : goal.returns-clause-one
returns-clause-one c = one_tree
