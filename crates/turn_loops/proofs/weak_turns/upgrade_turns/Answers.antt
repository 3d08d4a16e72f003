use Rattle.std.proofs.Common.{◌<◌, ◌∙◌, List, arith, subst, sym}
use Rattle.snapshot_ptr.specs.plain_state.declared.slot.SlotId.{SlotId}
use Rattle.snapshot_ptr.specs.plain_state.Lists.{times}
use Rattle.turn_loops.proofs.Counting.{dropped_adds, dropped_weaks, gained_adds, gained_weaks}
use Rattle.turn_loops.proofs.weak_turns.upgrade_turns.Goals as goal

pub loop-turn-preserved : goal.loop-turn-preserved
loop-turn-preserved c =
    let upgraded = (c.in-Ok.ensures {u = tt}).upgraded.1 in
    let more = gained_adds _ c.args.domain.now _ _ c.args.weak.now.slot c.loop-turn.seat
    c.upgrade.new.seat upgraded in
    let same = dropped_adds _ c.args.domain.now c.in-Ok.strong.slot c.upgrade.new.seat
    c.drop_strong.new.seat c.drop_strong.ensures.dropped in
    let gained = gained_weaks _ c.args.domain.now _ _ c.args.weak.now.slot c.loop-turn.seat
    c.upgrade.new.seat upgraded in
    let dropped = dropped_weaks _ c.args.domain.now c.in-Ok.strong.slot c.upgrade.new.seat
    c.drop_strong.new.seat c.drop_strong.ensures.dropped in
    let turns = c.loop-turn.invariant.turns in
    record {
      rest = c.drop_strong.ensures.rest;
      room = c.drop_strong.ensures.room (c.upgrade.ensures.room c.loop-turn.invariant.room);
      owned = subst (λ (xs : List SlotId). 0 < times c.args.weak.now.slot xs) (sym (dropped ∙ gained))
          c.loop-turn.invariant.owned;
      turns = omega arith;
    }
