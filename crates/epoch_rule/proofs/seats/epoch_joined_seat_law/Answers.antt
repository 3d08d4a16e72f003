use Rattle.epoch_rule.proofs.SeatLaws.{joined_law}
use Rattle.epoch_rule.proofs.seats.epoch_joined_seat_law.Goals as goal

pub returns : goal.returns
returns c = joined_law
