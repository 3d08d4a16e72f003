use Rattle.std.proofs.Common.{arith}
use Rattle.turn_loops.proofs.Counting.{dropped_makes, made_makes}
use Rattle.turn_loops.proofs.strong_turns.makes.Goals as goal

pub loop-turn-preserved : goal.loop-turn-preserved
loop-turn-preserved c =
    let made = made_makes _ c.args.domain.now _ _ _ c.in-Ok.strong.slot c.loop-turn.seat
    c.make.new.seat (c.in-Ok.ensures {u = tt}).made in
    let dropped = dropped_makes _ c.args.domain.now c.in-Ok.strong.slot c.make.new.seat
    c.drop_strong.new.seat c.drop_strong.ensures.dropped in
    let reaped = c.reap_all.ensures.made in
    let turns = c.loop-turn.invariant.turns in
    record {
      rest = c.reap_all.ensures.rest;
      room = c.reap_all.ensures.room;
      turns = omega arith;
    }
