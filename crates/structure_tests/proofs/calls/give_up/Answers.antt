use Rattle.std.proofs.Common.{ap}
use Rattle.structure_tests.specs.Ready.{View}
use Rattle.structure_tests.proofs.Kept.{ready_as}
use Rattle.structure_tests.proofs.calls.give_up.Goals as goal

pub returns-clause-ready : goal.returns-clause-ready
returns-clause-ready c =
    ready_as c.args.domain.now c.args.seat.now c.drop_strong.new.seat c.requires.ready
    c.drop_strong.ensures.notes (ap (λ (v : View). v.0) c.drop_strong.ensures.client)
    (c.drop_strong.ensures.room c.requires.ready.free.room) c.drop_strong.ensures.rest
