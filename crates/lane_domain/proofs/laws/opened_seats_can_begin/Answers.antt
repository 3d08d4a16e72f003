use Rattle.lane_domain.proofs.SeatsOpened.{opened_begin}
use Rattle.lane_domain.proofs.laws.opened_seats_can_begin.Goals as goal

pub returns : goal.returns
returns c = opened_begin
