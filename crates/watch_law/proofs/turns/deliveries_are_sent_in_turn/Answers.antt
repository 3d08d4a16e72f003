use Rattle.watch_law.proofs.turns.deliveries_are_sent_in_turn.Goals as goal
use Rattle.watch_law.proofs.InTurn.{made_is_addressed}

pub returns : goal.returns
returns c = made_is_addressed
