use Rattle.core_law.proofs.invariant.sound_is_good.Goals as goal
use Rattle.core_law.proofs.Parts.{sound_good}

pub returns : goal.returns
returns c = sound_good
