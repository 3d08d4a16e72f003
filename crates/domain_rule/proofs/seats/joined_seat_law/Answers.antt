use Rattle.domain_rule.proofs.SeatLaws.{joined_law}
use Rattle.domain_rule.proofs.seats.joined_seat_law.Goals as goal

pub returns : goal.returns
returns c = joined_law
