use Rattle.epoch_rule.proofs.SeatLaws.{opened_law}
use Rattle.epoch_rule.proofs.seats.epoch_opened_seat_law.Goals as goal

pub returns : goal.returns
returns c = opened_law
