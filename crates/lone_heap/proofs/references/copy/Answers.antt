use Rattle.std.proofs.Common.{◌≡◌}
use Rattle.plain_settling.specs.plain_store.Calls.{Gains}
use Rattle.protected_loads.specs.counted_handles.Handles.{Handle}
use Rattle.protected_loads.specs.acquire_retire.Calls.{IsSameView, same_view}
use Rattle.slot_store.proofs.Below.acquire_retire_Wholes.{then_ok}
use Rattle.protected_loads.specs.control_word.Calls.{GainsStrong}
use Rattle.lone_heap.specs.Lone.{known_plain}
use Rattle.lone_heap.proofs.Holding.{ready_result}
use Rattle.lone_heap.proofs.Owning.{gains_shown, gains_ready}
use Rattle.lone_heap.proofs.Trailing.{becomes_goes, result_goes}
use Rattle.lone_heap.proofs.references.copy.Goals as goal

pub returns-clause-gains : goal.returns-clause-gains
returns-clause-gains g c =
    then_ok
    (λ (more : Handle). (more.slot ≡ c.args.handle.now.slot)
    × GainsStrong g.P.Kind.PayloadKind.fits c.args.domain.now same_view IsSameView
    c.args.handle.now.slot c.args.seat.now c.copy_strong.new.seat)
    (λ (more : Handle). Gains (known_plain c.args.domain.now c.args.seat.now)
    c.args.handle.now.slot more.slot (known_plain c.args.domain.now c.copy_strong.new.seat))
    c.copy_strong.result
    (λ more is.
    gains_shown c.args.domain.now c.args.handle.now.slot c.args.seat.now c.copy_strong.new.seat
    c.requires.ready c.copy_strong.ensures.rest c.copy_strong.ensures.room more.slot is.0 is.1)
    c.copy_strong.ensures.copied

pub returns-clause-ready : goal.returns-clause-ready
returns-clause-ready g c =
    ready_result c.args.domain.now
    (λ (more : Handle). (more.slot ≡ c.args.handle.now.slot)
    × GainsStrong g.P.Kind.PayloadKind.fits c.args.domain.now same_view IsSameView
    c.args.handle.now.slot c.args.seat.now c.copy_strong.new.seat)
    c.copy_strong.result c.args.seat.now c.copy_strong.new.seat c.requires.ready
    c.copy_strong.ensures.copied c.copy_strong.ensures.refused
    (λ more is.
    gains_ready c.args.domain.now c.args.handle.now.slot c.args.seat.now c.copy_strong.new.seat
    c.requires.ready c.copy_strong.ensures.rest c.copy_strong.ensures.room is.1)

pub returns-clause-trail : goal.returns-clause-trail
returns-clause-trail g c =
    result_goes
    (λ (more : Handle). (more.slot ≡ c.args.handle.now.slot)
    × GainsStrong g.P.Kind.PayloadKind.fits c.args.domain.now same_view IsSameView
    c.args.handle.now.slot c.args.seat.now c.copy_strong.new.seat)
    c.copy_strong.result c.args.seat.now c.copy_strong.new.seat
    c.copy_strong.ensures.copied c.copy_strong.ensures.refused
    (λ more is. becomes_goes c.args.domain.now c.args.seat.now c.copy_strong.new.seat is.1)
