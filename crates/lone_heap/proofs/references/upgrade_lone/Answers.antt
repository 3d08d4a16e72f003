use Rattle.std.proofs.Common.{◌≡◌}
use Rattle.plain_settling.specs.plain_store.Calls.{Gains}
use Rattle.protected_loads.specs.counted_handles.Handles.{Handle}
use Rattle.protected_loads.specs.acquire_retire.Calls.{IsSameView, same_view}
use Rattle.slot_store.proofs.Below.acquire_retire_Wholes.{then_ok}
use Rattle.protected_loads.specs.control_word.Calls.{GainsStrong}
use Rattle.lone_heap.specs.Lone.{known_plain}
use Rattle.lone_heap.proofs.Owning.{dead_shown, gains_shown, upgrade_ready}
use Rattle.lone_heap.specs.Trails.{Shows, upgraded}
use Rattle.lone_heap.proofs.Trailing.{becomes_shows}
use Rattle.lone_heap.proofs.references.upgrade_lone.Goals as goal

pub returns-clause-up : goal.returns-clause-up
returns-clause-up g c =
    then_ok
    (λ (more : Handle). (more.slot ≡ c.args.weak.now.slot)
    × GainsStrong g.K.PayloadKind.fits c.args.domain.now same_view IsSameView
    c.args.weak.now.slot c.args.seat.now c.upgrade.new.seat)
    (λ (more : Handle). Gains (known_plain c.args.domain.now c.args.seat.now)
    c.args.weak.now.slot more.slot (known_plain c.args.domain.now c.upgrade.new.seat))
    c.upgrade.result
    (λ more is.
    gains_shown c.args.domain.now c.args.weak.now.slot c.args.seat.now c.upgrade.new.seat
    c.requires.ready c.upgrade.ensures.rest c.upgrade.ensures.room more.slot is.0 is.1)
    c.upgrade.ensures.upgraded

pub returns-clause-ended : goal.returns-clause-ended
returns-clause-ended g c =
    λ is.
    dead_shown c.args.domain.now c.args.weak.now.slot c.args.seat.now c.upgrade.new.seat
    c.requires.ready c.upgrade.ensures.rest c.upgrade.ensures.room (c.upgrade.ensures.ended is)

pub returns-clause-ready : goal.returns-clause-ready
returns-clause-ready g c =
    upgrade_ready c.args.domain.now c.args.weak.now.slot c.upgrade.result c.args.seat.now
    c.upgrade.new.seat c.requires.ready c.upgrade.ensures.rest c.upgrade.ensures.room c.upgrade.ensures.upgraded c.upgrade.ensures.refused c.upgrade.ensures.ended

pub returns-clause-shows_up : goal.returns-clause-shows_up
returns-clause-shows_up g c =
    then_ok
    (λ (more : Handle). (more.slot ≡ c.args.weak.now.slot)
    × GainsStrong g.K.PayloadKind.fits c.args.domain.now same_view IsSameView
    c.args.weak.now.slot c.args.seat.now c.upgrade.new.seat)
    (λ (more : Handle). Shows (upgraded c.args.weak.now.slot) c.args.seat.now.view.core
    c.upgrade.new.seat.view.core)
    c.upgrade.result
    (λ more is. becomes_shows c.args.domain.now c.args.seat.now c.upgrade.new.seat is.1)
    c.upgrade.ensures.upgraded

pub returns-clause-shows_ended : goal.returns-clause-shows_ended
returns-clause-shows_ended g c =
    λ is.
    becomes_shows c.args.domain.now c.args.seat.now c.upgrade.new.seat
    (c.upgrade.ensures.ended is).becomes
