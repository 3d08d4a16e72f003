use Rattle.sticky_count.proofs.Law.{zero_kept}
use Rattle.sticky_count.proofs.laws.zero_stays.Goals as goal

pub returns : goal.returns
returns c = zero_kept
