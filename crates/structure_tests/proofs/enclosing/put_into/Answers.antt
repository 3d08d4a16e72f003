use Rattle.std.proofs.Common.{◌<◌, List, ap, subst, sym}
use Rattle.part_calls.specs.plain_state.declared.slot.SlotId.{SlotId}
use Rattle.part_calls.specs.plain_state.Lists.{times}
use Rattle.part_calls.specs.core_events.declared.view.CoreView.{CoreView}
use Rattle.hand_queues.specs.queue_law.declared.view.View.{View as QueueView}
use Rattle.structure_tests.proofs.Enclosed.{own_letter}
use Rattle.structure_tests.proofs.Kept.{ready_as, same_queue}
use Rattle.structure_tests.proofs.enclosing.put_into.Goals as goal

pub store-requires-clause-within : goal.store-requires-clause-within
store-requires-clause-within c =
    own_letter c.args.item c.args.seat.now c.requires.owned c.requires.letter

pub returns-clause-owned : goal.returns-clause-owned
returns-clause-owned c =
    subst (λ (xs : List SlotId). 0 < times c.args.item xs)
    (sym (ap (λ (v : CoreView). v.owned) c.store.ensures.stored.swaps.same)) c.requires.left

pub returns-clause-stands : goal.returns-clause-stands
returns-clause-stands c =
    ap (λ (v : QueueView). v.stand)
    (same_queue c.args.seat.now c.store.new.seat c.store.ensures.beside)

pub returns-clause-ready : goal.returns-clause-ready
returns-clause-ready c =
    ready_as c.args.domain.now c.args.seat.now c.store.new.seat c.requires.ready
    c.store.ensures.notes (same_queue c.args.seat.now c.store.new.seat c.store.ensures.beside)
    c.store.ensures.room c.store.ensures.rest
