use Rattle.plain_settling.proofs.Taking.{snaps_take}
use Rattle.plain_settling.proofs.laws.plain_heaps_take_so.Goals as goal

pub returns : goal.returns
returns c = snaps_take
