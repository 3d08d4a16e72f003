use Rattle.std.proofs.Common.{◌∙◌, sym, ap, ◌<◌, length, Vec, arith}
use Rattle.std.proofs.lemmas.List.{get_or_default}
use Rattle.std.specs.declared.alloc.Global.{Global}
use Rattle.core_events.specs.plain_state.declared.slot.SlotId.{SlotId}
use Rattle.core_events.specs.Views.{without}
use Rattle.core_functions.proofs.Slots.{past, without_at}
use Rattle.core_functions.proofs.lists.take_first.Goals as goal

pub returns-then-index-slot-clause-taken : goal.returns-then-index-slot-clause-taken
returns-then-index-slot-clause-taken c =
    let lt : c.loop-i.i < length c.loop-i.list.items = omega arith in
    let same = get_or_default c.loop-i.list.items c.loop-i.i past c.index.result.now lt in
    let here = ap (λ (x : SlotId). x.0) (same ∙ sym c.index.ensures) ∙ c.if-index-slot.true in
    let found = without_at c.args.slot c.loop-i.list.items c.loop-i.i lt here
    c.loop-i.invariant.1 in
    c.remove.ensures.items
    ∙ (sym found
    ∙ ap (λ (v : Vec SlotId Global). without c.args.slot v.items) c.loop-i.invariant.0)
