use Rattle.epoch_players.proofs.Called.{by_core}
use Rattle.epoch_players.proofs.Changing.{gained}
use Rattle.epoch_players.proofs.counting_acts.copy.Goals as goal

pub note_strong-requires : goal.note_strong-requires
note_strong-requires c =
    gained c.e_copy.ensures.rest _ _ c.in-Ok.ensures.copied.0
    (by_core c.in-Ok.ensures.copied.1.told.core) c.requires
