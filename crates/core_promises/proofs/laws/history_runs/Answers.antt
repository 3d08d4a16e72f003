use Rattle.core_promises.proofs.Histories.{history_runs}
use Rattle.core_promises.proofs.laws.history_runs.Goals as goal

pub returns : goal.returns
returns c = history_runs
