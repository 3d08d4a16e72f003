use Rattle.domain_rule.proofs.SeatLaws.{opened_law}
use Rattle.domain_rule.proofs.seats.opened_seat_law.Goals as goal

pub returns : goal.returns
returns c = opened_law
