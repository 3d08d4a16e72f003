use Rattle.std.specs.Prelude.{None}
use Rattle.epoch_players.proofs.Called.{by_store}
use Rattle.epoch_players.proofs.Changing.{kept}
use Rattle.epoch_players.proofs.place_acts.clear.Goals as goal

pub returns-in-Ok : goal.returns-in-Ok
returns-in-Ok c = kept c.e_store.ensures.rest (by_store None c.in-Ok.ensures.stored) c.requires
