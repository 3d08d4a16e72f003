use Rattle.map_rest.proofs.Found.{finds_tree}
use Rattle.map_rest.proofs.laws.audits_find_the_tree.Goals as goal

pub returns : goal.returns
returns c = finds_tree
