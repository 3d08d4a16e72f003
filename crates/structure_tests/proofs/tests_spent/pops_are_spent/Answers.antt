use Rattle.std.proofs.Common.{ap}
use Rattle.structure_tests.specs.Ready.{View}
use Rattle.structure_tests.proofs.Kept.{ready_as}
use Rattle.structure_tests.proofs.Still.{loaded_client}
use Rattle.structure_tests.proofs.tests_spent.pops_are_spent.Goals as goal

pub returns-in_default : goal.returns-in_default
returns-in_default g c =
    ready_as c.args.domain.now c.args.seat.now c.try_load.new.seat c.requires.ready
    c.try_load.ensures.notes
    (ap (λ (v : View). v.0)
    (loaded_client _ c.args.domain.now _ _ c.args.seat.now c.try_load.new.seat
    c.try_load.result c.try_load.ensures.loaded c.try_load.ensures.refused
    c.try_load.ensures.moved))
    (c.try_load.ensures.room c.requires.ready.free.room) c.try_load.ensures.rest

pub try_pop-requires-clause-ready : goal.try_pop-requires-clause-ready
try_pop-requires-clause-ready g c =
    ready_as c.args.domain.now c.args.seat.now c.try_load.new.seat c.requires.ready
    c.try_load.ensures.notes
    (ap (λ (v : View). v.0)
    (loaded_client _ c.args.domain.now _ _ c.args.seat.now c.try_load.new.seat
    c.try_load.result c.try_load.ensures.loaded c.try_load.ensures.refused
    c.try_load.ensures.moved))
    (c.try_load.ensures.room c.requires.ready.free.room) c.try_load.ensures.rest
