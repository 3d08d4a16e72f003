use Rattle.map_law.proofs.promises.entries_have_one_order.Goals as goal
use Rattle.map_law.proofs.Gives.{one_order, knows_all, counts_all}

pub returns-clause-order : goal.returns-clause-order
returns-clause-order c = one_order

pub returns-clause-alone : goal.returns-clause-alone
returns-clause-alone c = knows_all

pub returns-clause-counts : goal.returns-clause-counts
returns-clause-counts c = counts_all
