use Rattle.std.proofs.Common.{arith}
use Rattle.turn_loops.proofs.Counting.{weakly_dropped_adds}
use Rattle.turn_loops.proofs.weak_turns.upgrades.Goals as goal

pub returns-clause-turns : goal.returns-clause-turns
returns-clause-turns g c all =
    let watched = (c.in-Some.ensures {u = tt}).adds in
    let turns = c.upgrade_turns-all.ensures.turns all in
    let drop = weakly_dropped_adds _ c.args.domain.now c.in-Some.weak.slot
    c.upgrade_turns-all.new.seat c.drop_weak.new.seat c.drop_weak.ensures.dropped in
    omega arith
