use Rattle.std.proofs.Common.{◌∙◌, ap, Err}
use Rattle.protected_loads.specs.core_events.Words.{slot_in}
use Rattle.protected_loads.specs.acquire_retire.Calls.{IsSameView, same_view}
use Rattle.lone_heap.proofs.Acquiring.{misses_none}
use Rattle.lone_heap.proofs.Placing.{readable_here}
use Rattle.lone_heap.proofs.Referring.{loads_go, loads_ready, loads_shown, weakly_loads_shown}
use Rattle.lone_heap.proofs.loading.load.Goals as goal

pub try_load-requires-clause-place : goal.try_load-requires-clause-place
try_load-requires-clause-place g c =
    readable_here c.args.domain.now c.args.seat.now c.requires.ready c.args.place c.requires.opened

pub unreachable-requires : goal.unreachable-requires
unreachable-requires g c =
    misses_none c.args.domain.now c.args.place c.args.seat.now c.try_load.new.seat c.requires.ready
    0 (slot_in c.in-Err-Moved.field-0-0) (slot_in c.in-Err-Moved.field-0-1)
    (c.try_load.ensures.moved c.in-Err-Moved.field-0-0 c.in-Err-Moved.field-0-1
    (c.in-Err-Moved.is ∙ ap Err c.in-Err-Moved.field-0-is))

pub returns-in-Ok-clause-loads : goal.returns-in-Ok-clause-loads
returns-in-Ok-clause-loads g c =
    loads_shown g.K.PayloadKind.fits c.args.domain.now c.args.place same_view IsSameView
    c.args.seat.now c.try_load.new.seat c.requires.ready c.in-Ok.found c.in-Ok.ensures.loaded

pub returns-in-Ok-clause-weakly : goal.returns-in-Ok-clause-weakly
returns-in-Ok-clause-weakly g c =
    weakly_loads_shown g.K.PayloadKind.fits c.args.domain.now c.args.place same_view IsSameView
    c.args.seat.now c.try_load.new.seat c.requires.ready c.in-Ok.found c.in-Ok.ensures.loaded

pub returns-in-Ok-clause-ready : goal.returns-in-Ok-clause-ready
returns-in-Ok-clause-ready g c =
    loads_ready g.K.PayloadKind.fits c.args.domain.now c.args.place same_view IsSameView
    c.args.seat.now c.try_load.new.seat c.requires.ready c.in-Ok.found c.in-Ok.ensures.loaded
    c.try_load.ensures.rest (c.try_load.ensures.room c.requires.ready.room)

pub returns-in-Ok-clause-trail : goal.returns-in-Ok-clause-trail
returns-in-Ok-clause-trail g c =
    loads_go g.K.PayloadKind.fits c.args.domain.now c.args.place same_view IsSameView
    c.args.seat.now c.try_load.new.seat c.in-Ok.found c.in-Ok.ensures.loaded
