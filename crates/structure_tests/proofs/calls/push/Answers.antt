use Rattle.structure_tests.proofs.Kept.{free_as, pushed_notes, pushed_stands}
use Rattle.structure_tests.proofs.calls.push.Goals as goal

pub returns-clause-stands : goal.returns-clause-stands
returns-clause-stands g c =
    pushed_stands c.args.seat.now c.push.new.seat c.push.result c.args.item.slot
    c.push.ensures.pushed c.push.ensures.refused

pub returns-clause-ready : goal.returns-clause-ready
returns-clause-ready g c = record {
  free = free_as c.args.domain.now c.args.seat.now c.push.new.seat c.requires.ready.free
      (pushed_notes c.args.seat.now c.push.new.seat c.push.result c.args.item.slot
      c.push.ensures.pushed c.push.ensures.refused)
      c.push.ensures.room c.push.ensures.rest;
  attached = c.push.ensures.attached;
}
