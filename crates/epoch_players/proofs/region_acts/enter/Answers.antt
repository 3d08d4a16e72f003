use Rattle.std.proofs.Common.{◌+◌, true, arith}
use Rattle.epoch_players.proofs.Called.{by_core}
use Rattle.epoch_players.proofs.Changing.{turned}
use Rattle.epoch_players.proofs.region_acts.enter.Goals as goal

pub returns : goal.returns
returns c =
    turned c.enter.ensures.rest true (c.enter.ensures.entered.epoch + 1) _ c.clear.ensures.items
    (by_core c.enter.ensures.entered.core) (λ is. omega arith) (λ is. absurd (cc (is))) c.requires
