use Rattle.epoch_players.proofs.Called.{by_core}
use Rattle.epoch_players.proofs.Changing.{kept}
use Rattle.epoch_players.proofs.flush_acts.flush.Goals as goal

pub returns-in-Ok-clause-plays : goal.returns-in-Ok-clause-plays
returns-in-Ok-clause-plays c =
    kept c.flush.ensures.rest (by_core c.in-Ok.ensures.flushed.core) c.requires
