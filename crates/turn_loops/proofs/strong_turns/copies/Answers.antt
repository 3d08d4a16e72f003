use Rattle.std.proofs.Common.{arith}
use Rattle.turn_loops.proofs.Counting.{dropped_adds, loaded_adds}
use Rattle.turn_loops.proofs.strong_turns.copies.Goals as goal

pub returns-clause-turns : goal.returns-clause-turns
returns-clause-turns g c all =
    let loaded = rw c.in-Ok-Some.field-0-is at (c.in-Ok-Some.ensures {u = tt}).loaded in
    let load = loaded_adds _ c.args.domain.now _ _ c.in-Ok-Some.strong.slot c.args.seat.now
    c.load.new.seat loaded in
    let turns = c.copy_turns-all.ensures.turns all in
    let drop = dropped_adds _ c.args.domain.now c.in-Ok-Some.strong.slot c.copy_turns-all.new.seat
    c.drop_strong.new.seat c.drop_strong.ensures.dropped in
    omega arith
