use Rattle.lone_heap.proofs.Snapping.{keep_ready, keep_shown}
use Rattle.protected_loads.specs.core_events.declared.act.Act.TheVariants as act
use Rattle.lone_heap.proofs.Trailing.{step_goes}
use Rattle.lone_heap.proofs.snapshots.keep.Goals as goal

pub returns-clause-gains : goal.returns-clause-gains
returns-clause-gains g c =
    keep_shown c.args.domain.now c.args.slot c.args.seat.now c.add.new.seat c.requires.ready
    c.add.result c.add.ensures c.requires.held c.of.result.slot c.of.ensures

pub returns-clause-ready : goal.returns-clause-ready
returns-clause-ready g c =
    keep_ready c.args.domain.now c.args.slot c.args.seat.now c.add.new.seat c.requires.ready
    c.add.result c.add.ensures c.requires.held

pub returns-clause-trail : goal.returns-clause-trail
returns-clause-trail g c =
    step_goes c.args.domain.now c.args.seat.now c.add.new.seat (act.Add c.args.slot) c.add.result
    c.add.ensures
