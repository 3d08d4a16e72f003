use Rattle.queue_law.proofs.promises.no_cycles.Goals as goal
use Rattle.queue_law.proofs.Cycles.{law_no_cycle}

pub returns : goal.returns
returns c = law_no_cycle
