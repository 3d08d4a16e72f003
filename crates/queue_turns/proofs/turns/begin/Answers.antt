use Rattle.std.proofs.Common.{arith}
use Rattle.queue_turns.proofs.turns.begin.Goals as goal

pub loop-thread-preserved : goal.loop-thread-preserved
loop-thread-preserved g c =
    let owned = c.push_copy.ensures.owned c.in_ok-item.item.slot in
    let had = c.loop-thread.invariant.1 in
    (c.push_copy.ensures.ready, omega arith)
