use Rattle.heap_audit.proofs.Alone.{one_walk}
use Rattle.heap_audit.proofs.laws.one_walk_is_found.Goals as goal

pub returns : goal.returns
returns c = one_walk
