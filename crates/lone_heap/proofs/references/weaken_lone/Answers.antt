use Rattle.std.proofs.Common.{◌≡◌}
use Rattle.plain_settling.specs.plain_store.Calls.{WeaklyGains}
use Rattle.protected_loads.specs.counted_handles.Handles.{Handle}
use Rattle.slot_store.proofs.Below.acquire_retire_Wholes.{then_ok}
use Rattle.protected_loads.specs.control_word.Calls.{GainsWeak}
use Rattle.lone_heap.specs.Lone.{known_plain}
use Rattle.lone_heap.proofs.Holding.{ready_result}
use Rattle.lone_heap.proofs.Owning.{weak_gains_shown, weak_gains_ready}
use Rattle.lone_heap.proofs.Trailing.{becomes_goes, result_goes}
use Rattle.lone_heap.proofs.references.weaken_lone.Goals as goal

pub returns-clause-gains : goal.returns-clause-gains
returns-clause-gains g c =
    then_ok
    (λ (more : Handle). (more.slot ≡ c.args.handle.now.slot)
    × GainsWeak g.P.Kind.PayloadKind.fits c.args.domain.now
    c.args.handle.now.slot c.args.seat.now c.weaken.new.seat)
    (λ (more : Handle). WeaklyGains (known_plain c.args.domain.now c.args.seat.now)
    c.args.handle.now.slot more.slot (known_plain c.args.domain.now c.weaken.new.seat))
    c.weaken.result
    (λ more is.
    weak_gains_shown c.args.domain.now c.args.handle.now.slot c.args.seat.now c.weaken.new.seat
    c.requires.ready c.weaken.ensures.rest c.weaken.ensures.room more.slot is.0 is.1)
    c.weaken.ensures.gained

pub returns-clause-ready : goal.returns-clause-ready
returns-clause-ready g c =
    ready_result c.args.domain.now
    (λ (more : Handle). (more.slot ≡ c.args.handle.now.slot)
    × GainsWeak g.P.Kind.PayloadKind.fits c.args.domain.now
    c.args.handle.now.slot c.args.seat.now c.weaken.new.seat)
    c.weaken.result c.args.seat.now c.weaken.new.seat c.requires.ready
    c.weaken.ensures.gained c.weaken.ensures.refused
    (λ more is.
    weak_gains_ready c.args.domain.now c.args.handle.now.slot c.args.seat.now c.weaken.new.seat
    c.requires.ready c.weaken.ensures.rest c.weaken.ensures.room is.1)

pub returns-clause-trail : goal.returns-clause-trail
returns-clause-trail g c =
    result_goes
    (λ (more : Handle). (more.slot ≡ c.args.handle.now.slot)
    × GainsWeak g.P.Kind.PayloadKind.fits c.args.domain.now
    c.args.handle.now.slot c.args.seat.now c.weaken.new.seat)
    c.weaken.result c.args.seat.now c.weaken.new.seat
    c.weaken.ensures.gained c.weaken.ensures.refused
    (λ more is. becomes_goes c.args.domain.now c.args.seat.now c.weaken.new.seat is.1)
