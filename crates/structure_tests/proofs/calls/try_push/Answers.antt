use Rattle.structure_tests.proofs.Kept.{free_as, pushed_notes, pushed_stands}
use Rattle.structure_tests.proofs.calls.try_push.Goals as goal

pub returns-clause-stands : goal.returns-clause-stands
returns-clause-stands g c =
    pushed_stands c.args.seat.now c.try_push.new.seat c.try_push.result c.args.item.slot
    c.try_push.ensures.pushed c.try_push.ensures.refused

pub returns-clause-ready : goal.returns-clause-ready
returns-clause-ready g c = record {
  free = free_as c.args.domain.now c.args.seat.now c.try_push.new.seat c.requires.ready.free
      (pushed_notes c.args.seat.now c.try_push.new.seat c.try_push.result c.args.item.slot
      c.try_push.ensures.pushed c.try_push.ensures.refused)
      c.try_push.ensures.room c.try_push.ensures.rest;
  attached = c.try_push.ensures.attached;
}
