use Rattle.watch_law.proofs.promises.what_was_read_stays.Goals as goal
use Rattle.watch_law.proofs.Gives.{read_holds}

pub returns : goal.returns
returns c = read_holds
