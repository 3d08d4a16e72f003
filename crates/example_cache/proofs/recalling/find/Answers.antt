use Rattle.cdrc.proofs.Below.protected_loads_Learning.{room_as}
use Rattle.example_cache.proofs.Finding.{answered_at}
use Rattle.example_cache.proofs.recalling.find.Goals as goal

pub returns-clause-found : goal.returns-clause-found
returns-clause-found g c =
    (answered_at g.K.PayloadKind.fits c.args.domain.now c.args.cell
    c.args.domain.now.protocol.cell c.requires.cell c.args.seat.now c.requires.rest
    c.try_load_weak.new.seat c.try_load_weak.result c.try_load_weak.ensures.refused
    c.try_load_weak.ensures.loaded c.try_load_weak.ensures.moved).0

pub returns-clause-remembered : goal.returns-clause-remembered
returns-clause-remembered g c =
    (answered_at g.K.PayloadKind.fits c.args.domain.now c.args.cell
    c.args.domain.now.protocol.cell c.requires.cell c.args.seat.now c.requires.rest
    c.try_load_weak.new.seat c.try_load_weak.result c.try_load_weak.ensures.refused
    c.try_load_weak.ensures.loaded c.try_load_weak.ensures.moved).1

pub returns-clause-room : goal.returns-clause-room
returns-clause-room g c =
    room_as c.args.seat.now.view.core c.try_load_weak.new.seat.view.core
    (answered_at g.K.PayloadKind.fits c.args.domain.now c.args.cell
    c.args.domain.now.protocol.cell c.requires.cell c.args.seat.now c.requires.rest
    c.try_load_weak.new.seat c.try_load_weak.result c.try_load_weak.ensures.refused
    c.try_load_weak.ensures.loaded c.try_load_weak.ensures.moved).2 c.requires.room
