use Rattle.std.proofs.Common.{◌≡◌, [], ◌∷◌, ◌++◌, ap}
use Rattle.part_calls.specs.plain_protocol.Owns.{Object}
use Rattle.part_calls.specs.core_events.declared.view.CoreView.{CoreView}
use Rattle.structure_tests.specs.Ready.{IsLetterIn}
use Rattle.structure_tests.proofs.Enclosed.{is_letter, then_ok}
use Rattle.structure_tests.proofs.Kept.{ready_as, same_queue}
use Rattle.hand_queues.specs.queue_law.declared.view.View.{View as QueueView}
use Rattle.structure_tests.proofs.calls.write.Goals as goal

pub returns-clause-stands : goal.returns-clause-stands
returns-clause-stands c =
    ap (λ (v : QueueView). v.stand)
    (same_queue c.args.seat.now c.make.new.seat c.make.ensures.beside)

pub returns-clause-ready : goal.returns-clause-ready
returns-clause-ready c =
    ready_as c.args.domain.now c.args.seat.now c.make.new.seat c.requires.ready
    c.make.ensures.notes (same_queue c.args.seat.now c.make.new.seat c.make.ensures.beside)
    (c.make.ensures.room c.requires.ready.free.room) c.make.ensures.rest

pub returns-clause-more : goal.returns-clause-more
returns-clause-more c =
    then_ok _
    (λ item. c.make.new.seat.view.core.owned ≡ c.args.seat.now.view.core.owned ++ item.slot ∷ [])
    c.make.result (λ item makes. ap (λ (v : CoreView). v.owned) makes.core) c.make.ensures.made

pub returns-clause-letter : goal.returns-clause-letter
returns-clause-letter c =
    then_ok _ (λ item. IsLetterIn item.slot c.make.new.seat) c.make.result
    (λ item makes. is_letter item.slot c.make.new.seat _ _ _
    (ap (λ (o : Object). o.payload) makes.object))
    c.make.ensures.made
