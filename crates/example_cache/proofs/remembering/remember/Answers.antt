use Rattle.std.proofs.Common.{ap, ◌∙◌}
use Rattle.cdrc.specs.plain_state.declared.slot.SlotId.{SlotId}
use Rattle.cdrc.specs.core_events.declared.view.CoreView.{CoreView}
use Rattle.cdrc.specs.core_events.Views.{without}
use Rattle.example_cache.proofs.Framing.{given_back, knows_given}
use Rattle.example_cache.proofs.remembering.remember.Goals as goal

pub returns-clause-weaks : goal.returns-clause-weaks
returns-clause-weaks g c x =
    let gained = c.in_ok-weak.ensures.gained in
    given_back c.args.object.now.slot x c.args.seat.now.view.core.weaks
    c.weaken.new.seat.view.core.weaks c.store_weak.new.seat.view.core.weaks
    (ap (λ (v : CoreView). v.weaks) gained.1.core)
    (ap (λ (v : CoreView). v.weaks) c.store_weak.ensures.stored.swaps.same
    ∙ ap (λ (s : SlotId). without s c.weaken.new.seat.view.core.weaks) gained.0)

pub returns-clause-objects : goal.returns-clause-objects
returns-clause-objects g c =
    let gained = c.in_ok-weak.ensures.gained in
    knows_given c.args.object.now.slot c.in_ok-weak.weak.slot _ c.args.seat.now
    c.weaken.new.seat c.store_weak.new.seat gained.0 gained.1.core c.weaken.ensures.objects
    c.store_weak.ensures.objects
