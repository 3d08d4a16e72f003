use Rattle.std.proofs.Common.{arith}
use Rattle.handle_tests.proofs.Within.{within_at}
use Rattle.handle_tests.proofs.player.weak_at.Goals as goal

pub returns-then-index-len : goal.returns-then-index-len
returns-then-index-len c =
    rw c.index.ensures
    (within_at c.args.player.now.weaks.items c.args.player.now.seat.view.core.weaks c.args.index _
    c.requires.weak (let l = c.len.ensures in let i = c.if-index-len.true in omega arith))
