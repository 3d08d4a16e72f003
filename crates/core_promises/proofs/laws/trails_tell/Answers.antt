use Rattle.core_promises.proofs.Trails.{trails_tell}
use Rattle.core_promises.proofs.laws.trails_tell.Goals as goal

pub returns : goal.returns
returns c = trails_tell
