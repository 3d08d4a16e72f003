use Rattle.heap_audit.proofs.Turning.{found_is_walk}
use Rattle.heap_audit.proofs.laws.found_is_walk.Goals as goal

pub returns : goal.returns
returns c = found_is_walk
