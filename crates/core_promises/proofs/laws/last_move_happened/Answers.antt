use Rattle.core_promises.proofs.LastMove.{last_move}
use Rattle.core_promises.proofs.laws.last_move_happened.Goals as goal

pub returns : goal.returns
returns c = last_move
