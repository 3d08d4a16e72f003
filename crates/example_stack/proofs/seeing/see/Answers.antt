use Rattle.std.proofs.Common.{ap, ℕ, List}
use Rattle.cdrc.proofs.Below.protected_loads_Learning.{room_as}
use Rattle.example_stack.proofs.Sights.{answered, null_at, ready}
use Rattle.example_stack.proofs.seeing.see.Goals as goal

pub try_load-requires-clause-deed : goal.try_load-requires-clause-deed
try_load-requires-clause-deed g c =
    ready g.K.PayloadKind.fits c.args.domain.now c.args.domain.now.protocol.cell c.args.place
    c.args.seat.now c.requires.stack

pub returns-clause-saw : goal.returns-clause-saw
returns-clause-saw g c =
    (answered g.K.PayloadKind.fits c.args.domain.now c.args.domain.now.protocol.cell c.args.place
    c.args.seat.now c.requires.rest c.try_load.new.seat c.try_load.result c.try_load.ensures.refused
    c.try_load.ensures.spent.0
    c.try_load.ensures.loaded c.try_load.ensures.moved c.try_load.ensures.objects).0

pub returns-clause-owned : goal.returns-clause-owned
returns-clause-owned g c =
    (answered g.K.PayloadKind.fits c.args.domain.now c.args.domain.now.protocol.cell c.args.place
    c.args.seat.now c.requires.rest c.try_load.new.seat c.try_load.result c.try_load.ensures.refused
    c.try_load.ensures.spent.0
    c.try_load.ensures.loaded c.try_load.ensures.moved c.try_load.ensures.objects).1

pub returns-clause-pushed : goal.returns-clause-pushed
returns-clause-pushed g c =
    ap (λ (x : List (List ℕ) × List (List ℕ)). x.0)
    (answered g.K.PayloadKind.fits c.args.domain.now c.args.domain.now.protocol.cell c.args.place
    c.args.seat.now c.requires.rest c.try_load.new.seat c.try_load.result c.try_load.ensures.refused
    c.try_load.ensures.spent.0
    c.try_load.ensures.loaded c.try_load.ensures.moved c.try_load.ensures.objects).2

pub returns-clause-popped : goal.returns-clause-popped
returns-clause-popped g c =
    ap (λ (x : List (List ℕ) × List (List ℕ)). x.1)
    (answered g.K.PayloadKind.fits c.args.domain.now c.args.domain.now.protocol.cell c.args.place
    c.args.seat.now c.requires.rest c.try_load.new.seat c.try_load.result c.try_load.ensures.refused
    c.try_load.ensures.spent.0
    c.try_load.ensures.loaded c.try_load.ensures.moved c.try_load.ensures.objects).2

pub returns-clause-room : goal.returns-clause-room
returns-clause-room g c =
    room_as c.args.seat.now.view.core c.try_load.new.seat.view.core
    (answered g.K.PayloadKind.fits c.args.domain.now c.args.domain.now.protocol.cell c.args.place
    c.args.seat.now c.requires.rest c.try_load.new.seat c.try_load.result c.try_load.ensures.refused
    c.try_load.ensures.spent.0
    c.try_load.ensures.loaded c.try_load.ensures.moved c.try_load.ensures.objects).3 c.requires.room

pub returns-clause-why : goal.returns-clause-why
returns-clause-why g c =
    (answered g.K.PayloadKind.fits c.args.domain.now c.args.domain.now.protocol.cell c.args.place
    c.args.seat.now c.requires.rest c.try_load.new.seat c.try_load.result c.try_load.ensures.refused
    c.try_load.ensures.spent.0
    c.try_load.ensures.loaded c.try_load.ensures.moved c.try_load.ensures.objects).4

pub returns-clause-null : goal.returns-clause-null
returns-clause-null g c =
    null_at g.K.PayloadKind.fits c.args.domain.now c.args.place c.args.seat.now c.try_load.new.seat
    c.try_load.result c.try_load.ensures.loaded

pub returns-clause-gains : goal.returns-clause-gains
returns-clause-gains g c =
    (answered g.K.PayloadKind.fits c.args.domain.now c.args.domain.now.protocol.cell c.args.place
    c.args.seat.now c.requires.rest c.try_load.new.seat c.try_load.result c.try_load.ensures.refused
    c.try_load.ensures.spent.0
    c.try_load.ensures.loaded c.try_load.ensures.moved c.try_load.ensures.objects).5

pub returns-clause-leaves : goal.returns-clause-leaves
returns-clause-leaves g c =
    (answered g.K.PayloadKind.fits c.args.domain.now c.args.domain.now.protocol.cell c.args.place
    c.args.seat.now c.requires.rest c.try_load.new.seat c.try_load.result c.try_load.ensures.refused
    c.try_load.ensures.spent.0
    c.try_load.ensures.loaded c.try_load.ensures.moved c.try_load.ensures.objects).6
