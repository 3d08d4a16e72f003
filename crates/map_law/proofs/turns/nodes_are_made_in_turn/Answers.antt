use Rattle.map_law.proofs.turns.nodes_are_made_in_turn.Goals as goal
use Rattle.map_law.proofs.InTurn.{made_known, set_known, sets_made, sets_again}

pub returns-clause-made : goal.returns-clause-made
returns-clause-made c = made_known

pub returns-clause-set : goal.returns-clause-set
returns-clause-set c = set_known

pub returns-clause-sets : goal.returns-clause-sets
returns-clause-sets c = sets_made

pub returns-clause-again : goal.returns-clause-again
returns-clause-again c = sets_again
