use Rattle.std.proofs.Common.{rules}
use Rattle.region_turns.proofs.Visiting.{has_visited_more}
use Rattle.region_turns.proofs.looking.look_turns.Goals as goal

pub loop-turn-preserved : goal.loop-turn-preserved
loop-turn-preserved c =
    let turn = c.look_turn.ensures.turn c.if-not-look_turn.false in
    record {
      free = c.look_turn.ensures.free;
      turns = has_visited_more c.loop-turn.invariant.turns turn (search rules);
    }
