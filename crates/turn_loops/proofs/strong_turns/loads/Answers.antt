use Rattle.std.proofs.Common.{arith}
use Rattle.turn_loops.proofs.Counting.{dropped_adds, loaded_adds}
use Rattle.turn_loops.proofs.strong_turns.loads.Goals as goal

pub loop-turn-preserved : goal.loop-turn-preserved
loop-turn-preserved g c =
    let loaded = rw c.in-Ok-Some.field-0-is at (c.in-Ok-Some.ensures {u = tt}).loaded in
    let load = loaded_adds _ c.args.domain.now _ _ c.in-Ok-Some.strong.slot c.loop-turn.seat
    c.load.new.seat loaded in
    let drop = dropped_adds _ c.args.domain.now c.in-Ok-Some.strong.slot c.load.new.seat
    c.drop_strong.new.seat c.drop_strong.ensures.dropped in
    let turns = c.loop-turn.invariant.turns in
    record {
      rest = c.drop_strong.ensures.rest;
      room = c.drop_strong.ensures.room (c.load.ensures.room c.loop-turn.invariant.room);
      turns = omega arith;
    }
