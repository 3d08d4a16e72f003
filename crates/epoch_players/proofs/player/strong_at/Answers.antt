use Rattle.std.proofs.Common.{arith}
use Rattle.epoch_players.proofs.Within.{within_at}
use Rattle.epoch_players.proofs.player.strong_at.Goals as goal

pub returns-then-index-len : goal.returns-then-index-len
returns-then-index-len c =
    rw c.index.ensures
    (within_at c.args.player.now.strongs.items c.args.player.now.seat.view.core.owned c.args.index _
    c.requires.strong (let l = c.len.ensures in let i = c.if-index-len.true in omega arith))
