use Rattle.plain_settling.proofs.Settling.{settles_so}
use Rattle.plain_settling.proofs.laws.plain_heaps_settle_so.Goals as goal

pub returns : goal.returns
returns c = settles_so
