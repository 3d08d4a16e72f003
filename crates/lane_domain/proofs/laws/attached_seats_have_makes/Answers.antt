use Rattle.lane_domain.proofs.Enough.{attached_makes}
use Rattle.lane_domain.proofs.laws.attached_seats_have_makes.Goals as goal

pub returns : goal.returns
returns c = attached_makes
