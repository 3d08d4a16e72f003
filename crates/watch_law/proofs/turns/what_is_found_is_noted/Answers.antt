use Rattle.watch_law.proofs.turns.what_is_found_is_noted.Goals as goal
use Rattle.watch_law.proofs.InTurn.{found_is_noted}

pub returns : goal.returns
returns c = found_is_noted
