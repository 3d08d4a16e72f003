use Rattle.cell_making.proofs.Heads.{head_bound, head_made, head_stays}
use Rattle.cell_making.proofs.laws.records_are_bound_in_turn.Goals as goal

pub returns-clause-made : goal.returns-clause-made
returns-clause-made c = head_made

pub returns-clause-stays : goal.returns-clause-stays
returns-clause-stays c = head_stays

pub returns-clause-bound : goal.returns-clause-bound
returns-clause-bound c = head_bound
