use Rattle.std.proofs.Common.{◌∙◌, ap}
use Rattle.hand_queues.specs.queue_law.declared.view.Stand.{Stand}
use Rattle.structure_tests.proofs.Kept.{attached_joined, stands_joined}
use Rattle.structure_tests.proofs.tidying.leave_one.Goals as goal

pub leave-requires-clause-rests : goal.leave-requires-clause-rests
leave-requires-clause-rests c = (c.requires.ready.free.rest, c.requires.free.rest)

pub leave-requires-clause-none : goal.leave-requires-clause-none
leave-requires-clause-none c = (c.requires.ready.free.none, c.requires.free.none)

pub returns-clause-ready : goal.returns-clause-ready
returns-clause-ready c = record {
  free = record {
    rest = c.leave.ensures.rest;
    none = c.leave.ensures.none;
    room = c.leave.ensures.room;
  };
  attached = attached_joined _ c.args.domain.now c.args.root.now c.args.seat c.leave.new.root
      c.leave.ensures.leaves c.requires.ready.attached;
}

pub returns-clause-laid : goal.returns-clause-laid
returns-clause-laid c =
    ap (λ (x : Stand). x.laid)
    (stands_joined _ c.args.domain.now c.args.root.now c.args.seat c.leave.new.root
    c.leave.ensures.leaves)
    ∙ c.requires.laid
