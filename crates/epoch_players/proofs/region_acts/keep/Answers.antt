use Rattle.epoch_players.proofs.Called.{by_core}
use Rattle.epoch_players.proofs.Changing.{gained}
use Rattle.epoch_players.proofs.region_acts.keep.Goals as goal

pub note_strong-requires : goal.note_strong-requires
note_strong-requires c =
    gained c.e_keep.ensures.rest _ _ c.in-Ok.ensures.kept.0
    (by_core c.in-Ok.ensures.kept.1.told.core) c.requires
