use Rattle.epoch_alone.proofs.Settled.{imaged, settled}
use Rattle.epoch_alone.proofs.laws.lone_states_are_settled.Goals as goal

pub returns-clause-settled : goal.returns-clause-settled
returns-clause-settled g c = settled _

pub returns-clause-image : goal.returns-clause-image
returns-clause-image g c = imaged _
