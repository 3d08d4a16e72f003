use Rattle.std.proofs.Common.{refl}
use Rattle.epoch_players.proofs.Called.{by_core}
use Rattle.epoch_players.proofs.Changing.{gained}
use Rattle.epoch_players.proofs.counting_acts.make.Goals as goal

pub note_strong-requires : goal.note_strong-requires
note_strong-requires c =
    gained c.e_make.ensures.rest _ _ refl (by_core c.in-Ok.ensures.made.core) c.requires
