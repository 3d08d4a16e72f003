use Rattle.std.proofs.Common.{◌<◌, List, ap, subst, sym}
use Rattle.part_calls.specs.plain_state.declared.slot.SlotId.{SlotId}
use Rattle.part_calls.specs.plain_state.Lists.{times}
use Rattle.part_calls.specs.core_events.declared.view.CoreView.{CoreView}
use Rattle.structure_tests.specs.Ready.{View}
use Rattle.structure_tests.proofs.Kept.{ready_as}
use Rattle.structure_tests.proofs.Still.{stays_client}
use Rattle.structure_tests.proofs.tests_spent.count_and_give_up.Goals as goal

pub give_up-requires-clause-ready : goal.give_up-requires-clause-ready
give_up-requires-clause-ready c =
    ready_as c.args.domain.now c.args.seat.now c.strong_count-count.new.seat c.requires.ready
    c.strong_count-count.ensures.notes
    (ap (λ (v : View). v.0)
    (stays_client _ c.args.domain.now _ c.strong_count-count.ensures.counted.becomes))
    (c.strong_count-count.ensures.room c.requires.ready.free.room) c.strong_count-count.ensures.rest

pub give_up-requires-clause-owned : goal.give_up-requires-clause-owned
give_up-requires-clause-owned c =
    subst (λ (xs : List SlotId). 0 < times c.args.item.slot xs)
    (sym (ap (λ (v : CoreView). v.owned) c.strong_count-count.ensures.counted.becomes.core))
    c.requires.owned
