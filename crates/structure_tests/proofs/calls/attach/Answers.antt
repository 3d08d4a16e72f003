use Rattle.std.proofs.Common.{ap}
use Rattle.hand_queues.specs.queue_law.declared.view.View.{View as QueueView}
use Rattle.structure_tests.proofs.Kept.{attached_now, free_as, left_notes}
use Rattle.structure_tests.proofs.calls.attach.Goals as goal

pub returns-clause-ready : goal.returns-clause-ready
returns-clause-ready g c = record {
  free = free_as c.args.domain.now c.args.seat.now c.attach.new.seat c.requires.new.free
      (left_notes c.args.seat.now c.attach.new.seat c.args.seat.now.view.core.owned
      c.attach.ensures.leaves)
      c.attach.ensures.room c.attach.ensures.rest;
  attached = attached_now c.args.seat.now c.attach.new.seat c.attach.ensures.attached
      c.requires.new.here;
}

pub returns-clause-stands : goal.returns-clause-stands
returns-clause-stands g c = ap (λ (v : QueueView). v.stand) c.attach.ensures.attached
