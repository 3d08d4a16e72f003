use Rattle.std.proofs.Common.{arith}
use Rattle.turn_loops.proofs.Copying.{still_owned}
use Rattle.turn_loops.proofs.Counting.{dropped_adds, gained_adds}
use Rattle.turn_loops.proofs.strong_turns.copy_once.Goals as goal

pub returns-clause-owned : goal.returns-clause-owned
returns-clause-owned c =
    let copied = (c.in-Ok.ensures {u = tt}).copied in
    still_owned c.args.domain.now c.args.strong.now.slot c.in-Ok.copy.slot copied.0
    c.args.seat.now c.copy_strong.new.seat c.drop_strong.new.seat c.requires.owned copied.1
    c.drop_strong.ensures.dropped

pub returns-clause-turn : goal.returns-clause-turn
returns-clause-turn c all =
    let copied = (c.in-Ok.ensures {u = tt}).copied in
    let gained = gained_adds _ c.args.domain.now _ _ c.args.strong.now.slot c.args.seat.now
    c.copy_strong.new.seat copied.1 in
    let dropped = dropped_adds _ c.args.domain.now c.in-Ok.copy.slot c.copy_strong.new.seat
    c.drop_strong.new.seat c.drop_strong.ensures.dropped in
    omega arith
