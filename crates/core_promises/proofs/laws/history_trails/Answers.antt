use Rattle.core_promises.proofs.Histories.{history_trails}
use Rattle.core_promises.proofs.laws.history_trails.Goals as goal

pub returns : goal.returns
returns c = history_trails
