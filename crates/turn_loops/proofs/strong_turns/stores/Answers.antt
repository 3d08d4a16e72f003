use Rattle.std.proofs.Common.{arith}
use Rattle.turn_loops.proofs.Counting.{made_makes, stored_makes}
use Rattle.turn_loops.proofs.strong_turns.stores.Goals as goal

pub loop-turn-preserved : goal.loop-turn-preserved
loop-turn-preserved c =
    let made = made_makes _ c.args.domain.now _ _ _ c.in-Ok.strong.slot c.loop-turn.seat
    c.make.new.seat (c.in-Ok.ensures {u = tt}).made in
    let stored = stored_makes _ c.args.domain.now _ _ c.in-Ok.strong.slot c.make.new.seat
    c.store.new.seat c.store.ensures.stored in
    let reaped = c.reap_all.ensures.made in
    let turns = c.loop-turn.invariant.turns in
    record {
      rest = c.reap_all.ensures.rest;
      room = c.reap_all.ensures.room;
      turns = omega arith;
    }
