use Rattle.queue_law.proofs.promises.what_was_left.Goals as goal
use Rattle.queue_law.proofs.Shut.{left_over}

pub returns : goal.returns
returns c = left_over
