use Rattle.std.proofs.Common.{◌<◌, List, arith, subst, sym}
use Rattle.snapshot_ptr.specs.plain_state.declared.slot.SlotId.{SlotId}
use Rattle.snapshot_ptr.specs.plain_state.Lists.{times}
use Rattle.turn_loops.proofs.Counting.{dropped_adds, dropped_weaks, loaded_adds, weakened_adds}
use Rattle.turn_loops.proofs.weak_turns.watch.Goals as goal

pub returns-clause-adds : goal.returns-clause-adds
returns-clause-adds g c =
    let loaded = rw c.in-Ok-Some.field-0-is at (c.in-Ok-Some.ensures {u = tt}).loaded in
    let load = loaded_adds _ c.args.domain.now _ _ c.in-Ok-Some.strong.slot c.args.seat.now
    c.load.new.seat loaded in
    let weakened = weakened_adds _ c.args.domain.now c.in-Ok-Some.strong.slot c.load.new.seat
    c.weaken.new.seat (c.in-Ok.ensures {u = tt}).gained.1 in
    let drop = dropped_adds _ c.args.domain.now c.in-Ok-Some.strong.slot c.weaken.new.seat
    c.drop_strong-2.new.seat c.drop_strong-2.ensures.dropped in
    omega arith

pub returns-clause-watched : goal.returns-clause-watched
returns-clause-watched g c =
    subst (λ (xs : List SlotId). 0 < times c.in-Ok.weak.slot xs)
    (sym (dropped_weaks _ c.args.domain.now c.in-Ok-Some.strong.slot c.weaken.new.seat
    c.drop_strong-2.new.seat c.drop_strong-2.ensures.dropped))
    (c.in-Ok.ensures {u = tt}).owned
