use Rattle.hand_queues.specs.linked_queue.Leaving.{found_by}
use Rattle.structure_tests.proofs.Kept.{free_as, popped_notes, popped_stands}
use Rattle.structure_tests.proofs.calls.try_pop.Goals as goal

pub returns-clause-stands : goal.returns-clause-stands
returns-clause-stands g c =
    popped_stands c.args.seat.now c.try_pop.new.seat (found_by c.try_pop.result)
    c.try_pop.ensures.popped

pub returns-clause-ready : goal.returns-clause-ready
returns-clause-ready g c = record {
  free = free_as c.args.domain.now c.args.seat.now c.try_pop.new.seat c.requires.ready.free
      (popped_notes c.args.seat.now c.try_pop.new.seat (found_by c.try_pop.result)
      c.try_pop.ensures.popped)
      c.try_pop.ensures.room c.try_pop.ensures.rest;
  attached = c.try_pop.ensures.attached;
}
