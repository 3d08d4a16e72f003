use Rattle.watch_law.proofs.promises.field_0_stays.Goals as goal
use Rattle.watch_law.proofs.Gives.{same_observer}

pub returns : goal.returns
returns c = same_observer
