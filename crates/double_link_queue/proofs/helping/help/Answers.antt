use Rattle.linked_queue.proofs.Linkings.{why_later}
use Rattle.double_link_queue.specs.Steps.{FindsBefore, HelpsAt, MissesBack}
use Rattle.weak_part_calls.specs.plain_state.declared.slot.SlotId.{SlotId}
use Rattle.std.proofs.Common.{subst, inl, inr, refl, arith, ◌∙◌}
use Rattle.std.specs.Prelude.{None, Option}
use Rattle.weak_part_calls.specs.atomic_shared.Places.{named}
use Rattle.weak_part_calls.specs.core_events.Views.{without}
use Rattle.weak_part_calls.specs.counted_handles.Handles.{Handle}
use Rattle.weak_part_calls.specs.part_calls.Parts.{seen_by, as_part}
use Rattle.linked_queue.specs.Leaving.{with_found}
use Rattle.linked_queue.proofs.Leavings.{drop_leaves, drop_spent, drop_adds, drop_makes}
use Rattle.double_link_queue.specs.Leaving.{LeavesBoth}
use Rattle.double_link_queue.proofs.Helps.{tail_through}
use Rattle.double_link_queue.proofs.Owning.{both_of, through_both}
use Rattle.double_link_queue.proofs.helping.help.Goals as goal

pub returns-in-Ok-clause-leaves : goal.returns-in-Ok-clause-leaves
returns-in-Ok-clause-leaves g c =
    let old = seen_by g.P.Part.seen c.args.seat.now in
    let mid = seen_by g.P.Part.seen c.find_before.new.seat in
    let late = seen_by g.P.Part.seen c.help_at-helped.new.seat in
    let new = seen_by g.P.Part.seen c.drop_strong.new.seat in
    let before = c.in-Ok-Some.before.slot in
    let gains = subst (λ (o : Option Handle). LeavesBoth
    (with_found (named o) old.view.core.owned) old.view.core.weaks old mid)
    c.in-Ok-Some.field-0-is c.in-Ok-Some.ensures.leaves in
    let goes = both_of mid.view.core.owned mid late c.help_at-helped.ensures.leaves in
    let gives = both_of (without before late.view.core.owned) late new
    (drop_leaves before late new c.drop_strong.ensures.dropped c.drop_strong.ensures.objects) in
    through_both before None old mid late new gains goes gives

pub returns-in-Ok-clause-tail : goal.returns-in-Ok-clause-tail
returns-in-Ok-clause-tail g c =
    let old = seen_by g.P.Part.seen c.args.seat.now in
    let mid = seen_by g.P.Part.seen c.find_before.new.seat in
    let late = seen_by g.P.Part.seen c.help_at-helped.new.seat in
    let new = seen_by g.P.Part.seen c.drop_strong.new.seat in
    let before = c.in-Ok-Some.before.slot in
    let gains = subst (λ (o : Option Handle). LeavesBoth
    (with_found (named o) old.view.core.owned) old.view.core.weaks old mid)
    c.in-Ok-Some.field-0-is c.in-Ok-Some.ensures.leaves in
    let goes = both_of mid.view.core.owned mid late c.help_at-helped.ensures.leaves in
    let gives = both_of (without before late.view.core.owned) late new
    (drop_leaves before late new c.drop_strong.ensures.dropped c.drop_strong.ensures.objects) in
    tail_through before c.args.last.now.slot old mid late new gains goes gives c.requires.tail
    c.help_at-helped.ensures.tail c.drop_strong.ensures.seen

pub returns-in-Err-helped-clause-leaves : goal.returns-in-Err-helped-clause-leaves
returns-in-Err-helped-clause-leaves g c =
    let old = seen_by g.P.Part.seen c.args.seat.now in
    let mid = seen_by g.P.Part.seen c.find_before.new.seat in
    let late = seen_by g.P.Part.seen c.help_at-helped.new.seat in
    let new = seen_by g.P.Part.seen c.drop_strong.new.seat in
    let before = c.in-Ok-Some.before.slot in
    let gains = subst (λ (o : Option Handle). LeavesBoth
    (with_found (named o) old.view.core.owned) old.view.core.weaks old mid)
    c.in-Ok-Some.field-0-is c.in-Ok-Some.ensures.leaves in
    let goes = both_of mid.view.core.owned mid late c.help_at-helped.ensures.leaves in
    let gives = both_of (without before late.view.core.owned) late new
    (drop_leaves before late new c.drop_strong.ensures.dropped c.drop_strong.ensures.objects) in
    through_both before None old mid late new gains goes gives

pub returns-in-Err-helped-clause-tail : goal.returns-in-Err-helped-clause-tail
returns-in-Err-helped-clause-tail g c =
    let old = seen_by g.P.Part.seen c.args.seat.now in
    let mid = seen_by g.P.Part.seen c.find_before.new.seat in
    let late = seen_by g.P.Part.seen c.help_at-helped.new.seat in
    let new = seen_by g.P.Part.seen c.drop_strong.new.seat in
    let before = c.in-Ok-Some.before.slot in
    let gains = subst (λ (o : Option Handle). LeavesBoth
    (with_found (named o) old.view.core.owned) old.view.core.weaks old mid)
    c.in-Ok-Some.field-0-is c.in-Ok-Some.ensures.leaves in
    let goes = both_of mid.view.core.owned mid late c.help_at-helped.ensures.leaves in
    let gives = both_of (without before late.view.core.owned) late new
    (drop_leaves before late new c.drop_strong.ensures.dropped c.drop_strong.ensures.objects) in
    tail_through before c.args.last.now.slot old mid late new gains goes gives c.requires.tail
    c.help_at-helped.ensures.tail c.drop_strong.ensures.seen

pub returns-in-Err-helped-clause-spent : goal.returns-in-Err-helped-clause-spent
returns-in-Err-helped-clause-spent g c = λ is.
    drop_spent c.in-Ok-Some.before.slot (seen_by g.P.Part.seen c.help_at-helped.new.seat)
    (seen_by g.P.Part.seen c.drop_strong.new.seat) c.drop_strong.ensures.dropped
    c.in-Err-helped.ensures.now_spent

pub returns-in-Ok-None-clause-events : goal.returns-in-Ok-None-clause-events
returns-in-Ok-None-clause-events g c =
    let d = as_part g.P.Part.part c.args.domain.now in
    let fits = g.P.Kind.PayloadKind.fits in
    let before = seen_by g.P.Part.seen c.args.seat.now in
    let found = seen_by g.P.Part.seen c.find_before.new.seat in
    inl (subst (λ (x : Option Handle × SlotId). FindsBefore fits d x.1 (named x.0) before found)
    (λ i. (c.in-Ok-None.field-0-is i, c.slot.ensures i)) c.in-Ok-None.ensures.events)

pub returns-in-Ok-clause-events : goal.returns-in-Ok-clause-events
returns-in-Ok-clause-events g c =
    let d = as_part g.P.Part.part c.args.domain.now in
    let fits = g.P.Kind.PayloadKind.fits in
    let before = seen_by g.P.Part.seen c.args.seat.now in
    let found = seen_by g.P.Part.seen c.find_before.new.seat in
    inr (record {
      before = c.in-Ok-Some.before.slot;
      found = found;
      helped = seen_by g.P.Part.seen c.help_at-helped.new.seat;
      finds = subst (λ (x : Option Handle × SlotId). FindsBefore fits d x.1 (named x.0) before found)
          (λ i. (c.in-Ok-Some.field-0-is i, c.slot.ensures i)) c.in-Ok-Some.ensures.events;
      helps = subst (λ (s : SlotId). HelpsAt fits d c.args.last.now.slot s found
          (seen_by g.P.Part.seen c.help_at-helped.new.seat)) c.slot-2.ensures
          c.in-Ok.ensures.events;
      drops = c.drop_strong.ensures.dropped;
    })

pub returns-in-Err-clause-why : goal.returns-in-Err-clause-why
returns-in-Err-clause-why g c =
    let d = as_part g.P.Part.part c.args.domain.now in
    let fits = g.P.Kind.PayloadKind.fits in
    let before = seen_by g.P.Part.seen c.args.seat.now in
    let found = seen_by g.P.Part.seen c.find_before.new.seat in
    why_later (λ seen now. MissesBack fits d c.slot.result seen now before found)
    (λ seen now. MissesBack fits d c.args.last.now.slot seen now before found) 1 2 1 refl
    c.in-Err.error before before (omega arith) refl
    (λ seen now m. subst (λ (s : SlotId). MissesBack fits d s seen now before found) c.slot.ensures m)
    c.in-Err.ensures.why

pub returns-in-Ok-clause-adds : goal.returns-in-Ok-clause-adds
returns-in-Ok-clause-adds g c =
    let first = c.find_before.ensures.adds in
    let second = c.help_at-helped.ensures.adds in
    let third = drop_adds c.in-Ok-Some.before.slot
    (seen_by g.P.Part.seen c.help_at-helped.new.seat) (seen_by g.P.Part.seen c.drop_strong.new.seat)
    c.drop_strong.ensures.dropped in omega arith

pub returns-in-Ok-clause-makes : goal.returns-in-Ok-clause-makes
returns-in-Ok-clause-makes g c =
    drop_makes c.in-Ok-Some.before.slot (seen_by g.P.Part.seen c.help_at-helped.new.seat)
    (seen_by g.P.Part.seen c.drop_strong.new.seat) c.drop_strong.ensures.dropped
    ∙ c.help_at-helped.ensures.makes ∙ c.find_before.ensures.makes

pub returns-in-Err-helped-clause-adds : goal.returns-in-Err-helped-clause-adds
returns-in-Err-helped-clause-adds g c =
    let first = c.find_before.ensures.adds in
    let second = c.help_at-helped.ensures.adds in
    let third = drop_adds c.in-Ok-Some.before.slot
    (seen_by g.P.Part.seen c.help_at-helped.new.seat) (seen_by g.P.Part.seen c.drop_strong.new.seat)
    c.drop_strong.ensures.dropped in omega arith

pub returns-in-Err-helped-clause-makes : goal.returns-in-Err-helped-clause-makes
returns-in-Err-helped-clause-makes g c =
    drop_makes c.in-Ok-Some.before.slot (seen_by g.P.Part.seen c.help_at-helped.new.seat)
    (seen_by g.P.Part.seen c.drop_strong.new.seat) c.drop_strong.ensures.dropped
    ∙ c.help_at-helped.ensures.makes ∙ c.find_before.ensures.makes
