use Rattle.map_law.proofs.promises.an_exchange_is_one_change.Goals as goal
use Rattle.map_law.proofs.Gives.{one_change}

pub returns : goal.returns
returns c = one_change
