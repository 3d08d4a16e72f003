use Rattle.hand_queues.specs.linked_queue.Pops.{both_by}
use Rattle.hand_queues.specs.queue_law.declared.view.View.{View as QueueView}
use Rattle.hand_queues.proofs.Below.linked_queue_Readings.{still_reads}
use Rattle.structure_tests.specs.Ready.{View}
use Rattle.structure_tests.proofs.Kept.{free_as, popped_with_notes, popped_with_stands}
use Rattle.structure_tests.proofs.calls.try_pop_with.Goals as goal

pub try_pop_with-requires-clause-deed : goal.try_pop_with-requires-clause-deed
try_pop_with-requires-clause-deed g c =
    still_reads (λ (v : View). v.0) (λ (v : View) (w : QueueView). (w, v.1)) c.args.field
    c.args.seat.now.view.client

pub returns-clause-stands : goal.returns-clause-stands
returns-clause-stands g c =
    popped_with_stands c.args.seat.now c.try_pop_with.new.seat (both_by c.try_pop_with.result)
    c.try_pop_with.ensures.popped

pub returns-clause-ready : goal.returns-clause-ready
returns-clause-ready g c = record {
  free = free_as c.args.domain.now c.args.seat.now c.try_pop_with.new.seat c.requires.ready.free
      (popped_with_notes c.args.seat.now c.try_pop_with.new.seat (both_by c.try_pop_with.result)
      c.try_pop_with.ensures.popped)
      c.try_pop_with.ensures.room c.try_pop_with.ensures.rest;
  attached = c.try_pop_with.ensures.attached;
}
