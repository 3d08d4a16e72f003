use Rattle.std.proofs.Common.{false, refl}
use Rattle.epoch_players.proofs.Called.{by_core}
use Rattle.epoch_players.proofs.Changing.{turned}
use Rattle.epoch_players.proofs.region_acts.exit.Goals as goal

pub returns-clause-plays : goal.returns-clause-plays
returns-clause-plays c =
    turned c.exit.ensures.rest false 0 _ c.clear.ensures.items (by_core c.exit.ensures.exited.told.core)
    (λ is. absurd (cc (is))) (λ is. refl) c.requires
