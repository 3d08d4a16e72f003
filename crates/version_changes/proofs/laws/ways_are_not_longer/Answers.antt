use Rattle.version_changes.proofs.Published.{not_longer}
use Rattle.version_changes.proofs.laws.ways_are_not_longer.Goals as goal

pub returns : goal.returns
returns c = not_longer
