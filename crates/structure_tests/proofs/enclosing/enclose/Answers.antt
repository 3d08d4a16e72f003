use Rattle.std.proofs.Common.{◌<◌, List, subst, sym}
use Rattle.part_calls.specs.plain_state.declared.slot.SlotId.{SlotId}
use Rattle.part_calls.specs.plain_state.Lists.{times}
use Rattle.part_calls.specs.core_events.Views.{without}
use Rattle.structure_tests.proofs.Enclosed.{made_left, made_more}
use Rattle.structure_tests.proofs.enclosing.enclose.Goals as goal

pub put_into-requires-clause-content : goal.put_into-requires-clause-content
put_into-requires-clause-content c =
    subst (λ (xs : List SlotId). 0 < times c.args.content.slot xs) (sym c.in_ok-item.ensures.more)
    (made_more c.args.content.slot c.in_ok-item.item.slot c.args.seat.now.view.core.owned
    c.requires.owned)

pub put_into-requires-clause-left : goal.put_into-requires-clause-left
put_into-requires-clause-left c =
    subst (λ (s : SlotId).
    0 < times s (without c.args.content.slot c.write.new.seat.view.core.owned))
    (sym c.slot.ensures)
    (subst (λ (xs : List SlotId).
    0 < times c.in_ok-item.item.slot (without c.args.content.slot xs))
    (sym c.in_ok-item.ensures.more)
    (made_left c.args.content.slot c.in_ok-item.item.slot c.args.seat.now.view.core.owned
    c.requires.owned))
