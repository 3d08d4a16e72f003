use Rattle.std.specs.Prelude.{Some}
use Rattle.epoch_players.proofs.Called.{by_exchange}
use Rattle.epoch_players.proofs.Changing.{given}
use Rattle.epoch_players.proofs.place_acts.put_where.Goals as goal

pub returns-in-Ok : goal.returns-in-Ok
returns-in-Ok c =
    given c.e_cas.ensures.rest c.args.strong.slot
    (by_exchange (Some c.args.strong.slot) c.in-Ok.ensures.done) c.requires.plays
