use Rattle.epoch_players.proofs.Called.{by_drop}
use Rattle.epoch_players.proofs.Changing.{given}
use Rattle.epoch_players.proofs.counting_acts.give_up.Goals as goal

pub returns-clause-plays : goal.returns-clause-plays
returns-clause-plays c =
    given c.e_drop.ensures.rest c.in-Some.strong.slot (by_drop c.e_drop.ensures.dropped.1)
    c.in-Some.ensures.taken
