use Rattle.map_trees.proofs.laws.changes_are_of_one_key.Goals as goal
use Rattle.map_trees.proofs.OneKey.{get_put_same, get_take_same, others_stay, changed_ascends}

pub returns-clause-put : goal.returns-clause-put
returns-clause-put c = get_put_same

pub returns-clause-take : goal.returns-clause-take
returns-clause-take c = get_take_same

pub returns-clause-other : goal.returns-clause-other
returns-clause-other c = others_stay

pub returns-clause-ascends : goal.returns-clause-ascends
returns-clause-ascends c = changed_ascends
