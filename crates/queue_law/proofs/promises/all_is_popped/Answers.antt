use Rattle.queue_law.proofs.promises.all_is_popped.Goals as goal
use Rattle.queue_law.proofs.Empties.{all_popped}

pub returns : goal.returns
returns c = all_popped
