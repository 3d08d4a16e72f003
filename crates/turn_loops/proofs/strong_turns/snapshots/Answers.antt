use Rattle.std.proofs.Common.{arith}
use Rattle.turn_loops.proofs.Counting.{ended_steps, snapshot_steps}
use Rattle.turn_loops.proofs.strong_turns.snapshots.Goals as goal

pub loop-turn-preserved : goal.loop-turn-preserved
loop-turn-preserved g c =
    let taken = rw c.in-Ok-Some.field-0-is at (c.in-Ok-Some.ensures {u = tt}).taken in
    let take = snapshot_steps _ c.args.domain.now _ _ _ _ c.in-Ok-Some.seen.slot c.loop-turn.seat
    c.snapshot.new.seat taken in
    let ended = ended_steps _ c.args.domain.now c.in-Ok-Some.seen c.snapshot.new.seat c.end.new.seat
    c.end.ensures.ended in
    let turns = c.loop-turn.invariant.turns in
    record {
      rest = c.end.ensures.rest;
      room = c.end.ensures.room (c.snapshot.ensures.room c.loop-turn.invariant.room);
      turns = omega arith;
    }
