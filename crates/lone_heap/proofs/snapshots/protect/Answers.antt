use Rattle.std.proofs.Common.{arith}
use Rattle.protected_loads.specs.acquire_retire.Calls.{IsSameView, same_view}
use Rattle.lone_heap.proofs.Acquiring.{acquired_goes, acquired_null, acquired_ready, acquired_under, misses_none}
use Rattle.lone_heap.proofs.Placing.{readable_here}
use Rattle.lone_heap.proofs.snapshots.protect.Goals as goal

pub acquire-requires-clause-place : goal.acquire-requires-clause-place
acquire-requires-clause-place g c =
    readable_here c.args.domain.now c.args.seat.now c.requires.ready c.args.place c.requires.opened

pub unreachable-requires : goal.unreachable-requires
unreachable-requires g c =
    misses_none c.args.domain.now c.args.place c.args.seat.now c.acquire.new.seat c.requires.ready
    c.args.word c.in-Err._moved.seen c.in-Err._moved.now c.in-Err.ensures.moved

pub returns-clause-null : goal.returns-clause-null
returns-clause-null g c =
    acquired_null g.K.PayloadKind.fits c.args.domain.now c.args.place same_view IsSameView
    c.args.seat.now c.acquire.new.seat c.requires.ready c.acquire.result c.in-Ok.found c.in-Ok.is
    c.acquire.ensures.null

pub returns-clause-under : goal.returns-clause-under
returns-clause-under g c =
    acquired_under g.K.PayloadKind.fits c.args.domain.now c.args.place same_view IsSameView
    c.args.seat.now c.acquire.new.seat c.requires.ready c.args.word c.requires.few c.requires.free
    c.in-Ok.found c.in-Ok.ensures.protected

pub returns-clause-ready : goal.returns-clause-ready
returns-clause-ready g c =
    acquired_ready g.K.PayloadKind.fits c.args.domain.now c.args.place same_view IsSameView
    c.args.seat.now c.acquire.new.seat c.requires.ready c.args.word c.requires.few c.requires.free
    c.acquire.result c.in-Ok.found c.in-Ok.is c.acquire.ensures.null c.in-Ok.ensures.protected
    c.requires.strong
    (c.acquire.ensures.rest (λ slot is zero. omega (arith, c.requires.some)))
    (c.acquire.ensures.room c.requires.ready.room)

pub returns-clause-trail : goal.returns-clause-trail
returns-clause-trail g c =
    acquired_goes g.K.PayloadKind.fits c.args.domain.now c.args.place same_view IsSameView
    c.args.seat.now c.acquire.new.seat c.args.word c.acquire.result c.in-Ok.found c.in-Ok.is
    c.acquire.ensures.null c.in-Ok.ensures.protected
