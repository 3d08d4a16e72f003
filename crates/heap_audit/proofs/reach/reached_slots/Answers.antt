use Rattle.std.proofs.Common.{◌<◌, length, sym, subst, arith}
use Rattle.std.proofs.lemmas.List.{get_or_read}
use Rattle.deleter.specs.plain_state.Images.{free_image}
use Rattle.heap_audit.specs.Heaps.{slot}
use Rattle.heap_audit.proofs.Marking.{Marked, marked_within}
use Rattle.heap_audit.proofs.Spreading.{spread_step, spread_all}
use Rattle.heap_audit.proofs.reach.reached_slots.Goals as goal

pub loop-next-preserved : goal.loop-next-preserved
loop-next-preserved c =
    let is = c.loop-next.invariant.spread in
    let listed : c.loop-next.next < length c.loop-next.marks.slots.items = omega arith in
    let at = get_or_read c.loop-next.marks.slots.items c.loop-next.next c.index-slot.result.now listed c.index-slot.ensures in
    let within : c.index-slot.result.now.0 < length c.args.heap.now.slots.items =
    omega (arith, marked_within c.loop-next.marks.marked.items c.index-slot.result.now (subst (Marked c.loop-next.marks.marked.items) (sym (at (slot 0))) (is.marking.marked c.loop-next.next (slot 0) listed)), is.size) in
    let read = get_or_read c.args.heap.now.slots.items c.index-slot.result.now.0 c.index.result.now within c.index.ensures free_image in
    let step = spread_step c.args.heap.now _ _ c.loop-next.next c.index-slot.result.now c.index.result.now _ _ _ _
    c.requires.lawful c.requires.range is listed (at (slot 0)) read c.in_ok-follow.ensures c.in_ok-follow-2.ensures in
    record { spread = step.0; listed = step.1 }

pub returns : goal.returns
returns c = spread_all c.args.heap.now _ _ c.loop-next.next c.loop-next.invariant.spread (omega arith)
