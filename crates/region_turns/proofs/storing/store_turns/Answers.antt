use Rattle.std.proofs.Common.{arith, rules}
use Rattle.region_turns.proofs.StoreEvents.{has_stored_next}
use Rattle.region_turns.proofs.storing.store_turns.Goals as goal

pub loop-turn-preserved : goal.loop-turn-preserved
loop-turn-preserved c =
    let stored = c.store_new.ensures.stored c.if-not-store_new.false in
    let flushed = c.flush_after.ensures.flushed c.if-not-flush_after.false in
    let made = c.store_new.ensures.made c.if-not-store_new.false in
    let kept = c.flush_after.ensures.made in
    let before = c.loop-turn.invariant.made in
    record {
      free = c.flush_after.ensures.free;
      made = omega arith;
      stored =
          has_stored_next c.store_new.new.seat.view.core c.loop-turn.invariant.stored stored flushed
          (search rules) (search rules) (search rules);
    }
