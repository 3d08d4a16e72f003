use Rattle.watch_law.proofs.promises.observers_live.Goals as goal
use Rattle.watch_law.proofs.Gives.{observer_lives}

pub returns : goal.returns
returns c = observer_lives
