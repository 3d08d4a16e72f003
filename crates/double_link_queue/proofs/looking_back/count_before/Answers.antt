use Rattle.std.proofs.Common.{[], ◌∷◌, ◌++◌, ap, sym, ◌∙◌, subst}
use Rattle.std.specs.Prelude.{Err}
use Rattle.weak_part_calls.specs.plain_state.declared.slot.SlotId.{SlotId}
use Rattle.weak_part_calls.specs.part_calls.Parts.{as_part, seen_by}
use Rattle.linked_queue.specs.queue_law.Lessons.{ended_next}
use Rattle.linked_queue.proofs.Accepting.{kept_all}
use Rattle.double_link_queue.specs.Leaving.{LeavesBoth}
use Rattle.double_link_queue.specs.Pushes.{SeesBefore}
use Rattle.double_link_queue.proofs.Accepting.{ended_kept}
use Rattle.double_link_queue.proofs.Upgrades.{ended_back, ended_leaves, ended_ready, up_back, up_before, up_leaves}
use Rattle.double_link_queue.proofs.looking_back.count_before.Goals as goal

pub upgrade-requires-clause-deed : goal.upgrade-requires-clause-deed
upgrade-requires-clause-deed g c =
    ended_ready g.P.Kind.PayloadKind.fits (as_part g.P.Part.part c.args.domain.now) c.args.last
    c.args.back.now.slot (seen_by g.P.Part.seen c.args.seat.now) c.requires.back c.requires.queue
    c.requires.attached

pub upgrade-requires-clause-accepted : goal.upgrade-requires-clause-accepted
upgrade-requires-clause-accepted g c =
    kept_all g.P.Part.seen g.P.Part.suits g.met.P.HasQueue.accepts
    c.args.domain.now.protocol c.args.seat.now.view.client ended_next ended_kept

pub returns-in-Ok-clause-sees : goal.returns-in-Ok-clause-sees
returns-in-Ok-clause-sees g c =
    let new = seen_by g.P.Part.seen c.upgrade.new.seat in
    subst (λ (s : SlotId). SeesBefore c.args.last s new) (sym c.in-Ok.ensures.upgraded.0)
    (up_before g.P.Kind.PayloadKind.fits (as_part g.P.Part.part c.args.domain.now) c.args.last
    c.args.back.now.slot (seen_by g.P.Part.seen c.args.seat.now) c.requires.back new
    c.upgrade.ensures.objects c.in-Ok.ensures.upgraded.1)

pub returns-in-Ok-clause-back : goal.returns-in-Ok-clause-back
returns-in-Ok-clause-back g c =
    up_back g.P.Kind.PayloadKind.fits (as_part g.P.Part.part c.args.domain.now) c.args.last
    c.args.back.now.slot (seen_by g.P.Part.seen c.args.seat.now) c.requires.back
    (seen_by g.P.Part.seen c.upgrade.new.seat) c.upgrade.ensures.objects c.in-Ok.ensures.upgraded.1

pub returns-in-Ok-clause-leaves : goal.returns-in-Ok-clause-leaves
returns-in-Ok-clause-leaves g c =
    let old = seen_by g.P.Part.seen c.args.seat.now in
    let new = seen_by g.P.Part.seen c.upgrade.new.seat in
    subst (λ (s : SlotId). LeavesBoth (old.view.core.owned ++ s ∷ []) old.view.core.weaks old new)
    (sym c.in-Ok.ensures.upgraded.0)
    (up_leaves g.P.Kind.PayloadKind.fits (as_part g.P.Part.part c.args.domain.now) c.args.last
    c.args.back.now.slot old c.requires.back new c.upgrade.ensures.objects
    c.in-Ok.ensures.upgraded.1)

pub returns-in-Err-Ended-clause-back : goal.returns-in-Err-Ended-clause-back
returns-in-Err-Ended-clause-back g c =
    ended_back g.P.Kind.PayloadKind.fits (as_part g.P.Part.part c.args.domain.now) c.args.last
    c.args.back.now.slot (seen_by g.P.Part.seen c.args.seat.now) c.requires.back
    (seen_by g.P.Part.seen c.upgrade.new.seat) c.upgrade.ensures.objects
    (c.upgrade.ensures.ended (c.in-Err-Ended.is ∙ ap Err c.in-Err-Ended.field-0-is))

pub returns-in-Err-Ended-clause-leaves : goal.returns-in-Err-Ended-clause-leaves
returns-in-Err-Ended-clause-leaves g c =
    ended_leaves g.P.Kind.PayloadKind.fits (as_part g.P.Part.part c.args.domain.now) c.args.last
    c.args.back.now.slot (seen_by g.P.Part.seen c.args.seat.now) c.requires.back
    (seen_by g.P.Part.seen c.upgrade.new.seat) c.upgrade.ensures.objects
    (c.upgrade.ensures.ended (c.in-Err-Ended.is ∙ ap Err c.in-Err-Ended.field-0-is))

pub returns-in-Ok-clause-events : goal.returns-in-Ok-clause-events
returns-in-Ok-clause-events g c = c.in-Ok.ensures.upgraded

pub returns-in-Err-Ended-clause-events : goal.returns-in-Err-Ended-clause-events
returns-in-Err-Ended-clause-events g c =
    c.upgrade.ensures.ended (c.in-Err-Ended.is ∙ ap Err c.in-Err-Ended.field-0-is)
