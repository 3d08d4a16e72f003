use Rattle.std.specs.Prelude.{Some}
use Rattle.epoch_players.proofs.Called.{by_store}
use Rattle.epoch_players.proofs.Changing.{given}
use Rattle.epoch_players.proofs.place_acts.put.Goals as goal

pub returns-in-Ok : goal.returns-in-Ok
returns-in-Ok c =
    given c.e_store.ensures.rest c.args.strong.slot (by_store (Some c.args.strong.slot) c.in-Ok.ensures.stored)
    c.requires.plays
