use Rattle.std.proofs.Common.{ap, arith}
use Rattle.structure_tests.specs.Ready.{View}
use Rattle.structure_tests.proofs.Kept.{ready_as}
use Rattle.structure_tests.proofs.Returned.{copied_back}
use Rattle.structure_tests.proofs.tests_spent.use_add.Goals as goal

pub returns-in-Ok-clause-owned : goal.returns-in-Ok-clause-owned
returns-in-Ok-clause-owned c =
    let back = copied_back c.args.domain.now c.args.seat.now c.copy_strong.new.seat
    c.drop_strong.new.seat c.args.item.now.slot c.in-Ok.more.slot _ c.in-Ok.ensures.copied.0
    c.in-Ok.ensures.copied.1 c.drop_strong.ensures.dropped c.drop_strong.ensures.objects
    c.args.item.now.slot in
    omega (arith, back, c.requires.owned)

pub returns-in-Ok-clause-ready : goal.returns-in-Ok-clause-ready
returns-in-Ok-clause-ready c =
    ready_as c.args.domain.now c.copy_strong.new.seat c.drop_strong.new.seat
    (ready_as c.args.domain.now c.args.seat.now c.copy_strong.new.seat c.requires.ready
    c.copy_strong.ensures.notes (ap (λ (v : View). v.0) c.copy_strong.ensures.client)
    (c.copy_strong.ensures.room c.requires.ready.free.room) c.copy_strong.ensures.rest)
    c.drop_strong.ensures.notes (ap (λ (v : View). v.0) c.drop_strong.ensures.client)
    (c.drop_strong.ensures.room (c.copy_strong.ensures.room c.requires.ready.free.room))
    c.drop_strong.ensures.rest
