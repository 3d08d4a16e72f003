use Rattle.core_law.proofs.invariant.start_is_sound.Goals as goal
use Rattle.core_law.proofs.Starts.{start_sound}

pub returns : goal.returns
returns c = start_sound
