use Rattle.std.proofs.Common.{◌∙◌}
use Rattle.turn_loops.proofs.Counting.{reaped_makes}
use Rattle.turn_loops.proofs.strong_turns.reap_all.Goals as goal

pub loop-reap-preserved : goal.loop-reap-preserved
loop-reap-preserved c = record {
  rest = c.reap.ensures.rest;
  room = c.reap.ensures.room;
  made =
      reaped_makes _ c.args.domain.now _ c.reap.result c.loop-reap.seat c.reap.new.seat
      c.reap.ensures.reaps
      ∙ c.loop-reap.invariant.made;
}
