use Rattle.cell_domain.proofs.Alone.{one_lacks}
use Rattle.cell_domain.proofs.laws.one_lane_lacks_slots.Goals as goal

pub returns : goal.returns
returns c = one_lacks
