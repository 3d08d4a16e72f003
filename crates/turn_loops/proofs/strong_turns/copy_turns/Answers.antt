use Rattle.std.proofs.Common.{arith}
use Rattle.turn_loops.proofs.strong_turns.copy_turns.Goals as goal

pub loop-turn-preserved : goal.loop-turn-preserved
loop-turn-preserved c =
    let turn = c.copy_once.ensures.turn c.if-not-copy_once.false in
    let turns = c.loop-turn.invariant.turns in
    record {
      rest = c.copy_once.ensures.rest;
      room = c.copy_once.ensures.room;
      owned = c.copy_once.ensures.owned;
      turns = omega arith;
    }
