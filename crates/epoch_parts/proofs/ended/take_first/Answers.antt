use Rattle.std.specs.Prelude.{remove}
use Rattle.std.proofs.Common.{◌≡◌, ◌∙◌, sym, ap, ◌<◌, length, rules}
use Rattle.std.proofs.lemmas.List.{get_or_default}
use Rattle.core_functions.specs.plain_state.declared.slot.SlotId.{SlotId}
use Rattle.core_functions.specs.core_events.Views.{without}
use Rattle.core_functions.proofs.Slots.{past, without_at}
use Rattle.epoch_parts.proofs.ended.take_first.Goals as goal

pub returns-then-index-slot-clause-taken : goal.returns-then-index-slot-clause-taken
returns-then-index-slot-clause-taken c =
    let lt : c.loop-i.i < length c.loop-i.list.items = search rules in
    let same = get_or_default c.loop-i.list.items c.loop-i.i past c.index.result.now lt in
    let here = ap (λ (x : SlotId). x.0) (same ∙ sym c.index.ensures) ∙ c.if-index-slot.true in
    let found = without_at c.args.slot c.loop-i.list.items c.loop-i.i lt here
    c.loop-i.invariant.1 in
    let value = c.remove.ensures.succeeds past (search rules) in
    let removed : c.remove.new.self.items ≡ remove c.loop-i.list.items c.loop-i.i = search rules in
    removed ∙ (sym found ∙ ap (λ v. without c.args.slot v.items) c.loop-i.invariant.0)
