use Rattle.plain_settling.specs.plain_store.Heaps as store
use Rattle.protected_loads.specs.counted_handles.Handles.{Handle}
use Rattle.protected_loads.specs.acquire_retire.Calls.{IsSameView, same_view}
use Rattle.slot_store.proofs.Below.acquire_retire_Wholes.{then_ok}
use Rattle.slot_store.specs.Calls.{Makes}
use Rattle.lone_heap.specs.Lone.{known_plain}
use Rattle.lone_heap.proofs.Makes.{full_none, full_same, made_ready, make_shown}
use Rattle.lone_heap.proofs.Starting.{made_shows}
use Rattle.lone_heap.proofs.making.make.Goals as goal

pub returns-clause-full : goal.returns-clause-full
returns-clause-full g c = λ is.
    full_none g.K.PayloadKind.fits c.args.domain.now c.args.seat.now c.make.new.seat c.requires.ready
    (c.make.ensures.full is)

pub returns-clause-same : goal.returns-clause-same
returns-clause-same g c = λ is.
    full_same g.K.PayloadKind.fits c.args.domain.now c.args.seat.now c.make.new.seat c.requires.ready
    (c.make.ensures.full is)

pub returns-clause-made : goal.returns-clause-made
returns-clause-made g c =
    then_ok
    (λ (strong : Handle). Makes g.K.PayloadKind.fits c.args.domain.now same_view IsSameView
    c.args.payload.now strong.slot c.args.seat.now c.make.new.seat)
    (λ (strong : Handle). store.Makes (known_plain c.args.domain.now c.args.seat.now) strong.slot
    c.args.payload.now (known_plain c.args.domain.now c.make.new.seat))
    c.make.result
    (λ strong makes.
    make_shown g.K.PayloadKind.fits c.args.domain.now c.args.payload.now strong.slot c.args.seat.now
    c.make.new.seat c.requires.ready c.make.ensures.rest c.make.ensures.room makes c.told-payload)
    c.make.ensures.made

pub returns-clause-ready : goal.returns-clause-ready
returns-clause-ready g c =
    made_ready g.K.PayloadKind.fits c.args.domain.now same_view IsSameView c.args.payload.now c.make.result c.args.seat.now
    c.make.new.seat c.requires.ready c.make.ensures.rest c.make.ensures.room c.make.ensures.no_make c.make.ensures.no_add
    c.make.ensures.full c.make.ensures.made

pub returns-clause-trail : goal.returns-clause-trail
returns-clause-trail g c =
    made_shows g.K.PayloadKind.fits c.args.domain.now same_view IsSameView c.args.payload.now
    c.make.result c.args.seat.now c.make.new.seat c.make.ensures.no_make c.make.ensures.no_add
    c.make.ensures.full c.make.ensures.made
