use Rattle.map_trees.proofs.laws.keys_lead_one_way.Goals as goal
use Rattle.map_trees.proofs.Changing.{get_at}
use Rattle.map_trees.proofs.Nexts.{next_at}

pub returns-clause-get : goal.returns-clause-get
returns-clause-get c = get_at

pub returns-clause-next : goal.returns-clause-next
returns-clause-next c = next_at
