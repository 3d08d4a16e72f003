use Rattle.epoch_alone.proofs.Settled.{counted}
use Rattle.epoch_alone.proofs.laws.images_count_references.Goals as goal

pub returns : goal.returns
returns c = counted
