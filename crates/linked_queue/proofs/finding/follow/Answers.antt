use Rattle.std.proofs.Common.{[], ◌∷◌, ◌++◌, inl, inr, refl, ap, subst, arith, ◌∙◌}
use Rattle.std.specs.Prelude.{None, Option}
use Rattle.queue_protocol.specs.plain_state.declared.act.EventPlace.TheVariants.{Field}
use Rattle.slot_store.specs.core_events.declared.view.CoreView.{CoreView}
use Rattle.slot_store.specs.counted_handles.Handles.{Handle}
use Rattle.part_calls.specs.atomic_shared.Places.{named}
use Rattle.part_calls.specs.Parts.{as_part, seen_by}
use Rattle.part_calls.specs.protected_loads.References.{Loads}
use Rattle.queue_protocol.specs.queue_law.Lessons.{NextTells, next_next}
use Rattle.linked_queue.specs.Leaving.{Leaves, with_found}
use Rattle.linked_queue.specs.PushLosses.{LosesBehind, LosesPassed, MissesBehind}
use Rattle.linked_queue.specs.Queues.{ends_of}
use Rattle.linked_queue.proofs.Leavings.{drop_adds, drop_leaves, drop_makes, drop_spent}
use Rattle.linked_queue.proofs.Linkings.{why_later, why_read}
use Rattle.linked_queue.proofs.Owning.{through}
use Rattle.linked_queue.proofs.Poppings.{leaves_on, some_found}
use Rattle.linked_queue.proofs.finding.follow.Goals as goal

pub returns-in-Ok-None-clause-events : goal.returns-in-Ok-None-clause-events
returns-in-Ok-None-clause-events g c =
    let d = as_part g.P.Part.part c.args.domain.now in
    subst (λ (o : Option Handle). Loads g.P.Kind.PayloadKind.fits d (Field c.args.first 0)
    next_next (NextTells (ends_of d)) (named o) (seen_by g.P.Part.seen c.args.seat.now)
    (seen_by g.P.Part.seen c.see_behind.new.seat))
    c.in-Ok-None.field-0-is c.in-Ok-None.ensures.loads

pub drop_strong-requires-clause-owned : goal.drop_strong-requires-clause-owned
drop_strong-requires-clause-owned g c =
    let gains = subst (λ (o : Option Handle). Leaves
    (with_found (named o) c.args.seat.now.view.core.owned) (seen_by g.P.Part.seen c.args.seat.now)
    (seen_by g.P.Part.seen c.see_behind.new.seat))
    c.in-Ok-Some.field-0-is c.in-Ok-Some.ensures.leaves in
    let s = c.in-Ok-Some.next.slot in
    let at = gains.owns s in
    let late = c.help_on.ensures.leaves.owns s in
    let some' = some_found s c.args.seat.now.view.core.owned in omega arith

pub returns-in-Ok-clause-events : goal.returns-in-Ok-clause-events
returns-in-Ok-clause-events g c =
    let d = as_part g.P.Part.part c.args.domain.now in
    let seen = seen_by g.P.Part.seen c.see_behind.new.seat in
    record {
      seen = seen;
      loads = subst (λ (o : Option Handle). Loads g.P.Kind.PayloadKind.fits d
          (Field c.args.first 0) next_next (NextTells (ends_of d)) (named o)
          (seen_by g.P.Part.seen c.args.seat.now) seen)
          c.in-Ok-Some.field-0-is c.in-Ok-Some.ensures.loads;
      helps = c.in-Ok.ensures.helps;
    }

pub returns-in-Ok-clause-leaves : goal.returns-in-Ok-clause-leaves
returns-in-Ok-clause-leaves g c =
    let before = seen_by g.P.Part.seen c.args.seat.now in
    let seen = seen_by g.P.Part.seen c.see_behind.new.seat in
    let gains = subst (λ (o : Option Handle). Leaves
    (with_found (named o) c.args.seat.now.view.core.owned) before seen)
    c.in-Ok-Some.field-0-is c.in-Ok-Some.ensures.leaves in
    leaves_on (c.args.seat.now.view.core.owned ++ c.in-Ok-Some.next.slot ∷ []) before seen
    (seen_by g.P.Part.seen c.help_on.new.seat) gains c.help_on.ensures.leaves

pub returns-in-Err-help_on-clause-leaves : goal.returns-in-Err-help_on-clause-leaves
returns-in-Err-help_on-clause-leaves g c =
    let before = seen_by g.P.Part.seen c.args.seat.now in
    let seen = seen_by g.P.Part.seen c.see_behind.new.seat in
    let lost = seen_by g.P.Part.seen c.help_on.new.seat in
    let after = seen_by g.P.Part.seen c.drop_strong.new.seat in
    let gains = subst (λ (o : Option Handle). Leaves
    (with_found (named o) c.args.seat.now.view.core.owned) before seen)
    c.in-Ok-Some.field-0-is c.in-Ok-Some.ensures.leaves in
    through c.in-Ok-Some.next.slot None before seen lost after gains c.help_on.ensures.leaves
    (drop_leaves c.in-Ok-Some.next.slot lost after c.drop_strong.ensures.dropped
    c.drop_strong.ensures.objects)

pub returns-in-Err-help_on-clause-adds : goal.returns-in-Err-help_on-clause-adds
returns-in-Err-help_on-clause-adds g c =
    let first = c.see_behind.ensures.adds in
    let second = c.help_on.ensures.adds in
    let third = drop_adds c.in-Ok-Some.next.slot (seen_by g.P.Part.seen c.help_on.new.seat)
    (seen_by g.P.Part.seen c.drop_strong.new.seat) c.drop_strong.ensures.dropped in
    omega arith

pub returns-in-Err-help_on-clause-makes : goal.returns-in-Err-help_on-clause-makes
returns-in-Err-help_on-clause-makes g c =
    drop_makes c.in-Ok-Some.next.slot (seen_by g.P.Part.seen c.help_on.new.seat)
    (seen_by g.P.Part.seen c.drop_strong.new.seat) c.drop_strong.ensures.dropped
    ∙ c.help_on.ensures.makes ∙ c.see_behind.ensures.makes

pub returns-in-Err-help_on-clause-spent : goal.returns-in-Err-help_on-clause-spent
returns-in-Err-help_on-clause-spent g c = λ is.
    drop_spent c.in-Ok-Some.next.slot (seen_by g.P.Part.seen c.help_on.new.seat)
    (seen_by g.P.Part.seen c.drop_strong.new.seat) c.drop_strong.ensures.dropped
    (c.in-Err-help_on.ensures.spent is)

pub returns-in-Err-clause-why : goal.returns-in-Err-clause-why
returns-in-Err-clause-why g c =
    let d = as_part g.P.Part.part c.args.domain.now in
    let fits = g.P.Kind.PayloadKind.fits in
    let before = seen_by g.P.Part.seen c.args.seat.now in
    let after = seen_by g.P.Part.seen c.see_behind.new.seat in
    why_read (λ seen now. MissesBehind fits d c.args.first seen now before after)
    (λ seen now. LosesBehind fits d c.args.first seen now before after) 1 c.in-Err.error before
    (λ seen now m. inl m) c.in-Err.ensures.why

pub returns-in-Err-help_on-clause-why : goal.returns-in-Err-help_on-clause-why
returns-in-Err-help_on-clause-why g c =
    let d = as_part g.P.Part.part c.args.domain.now in
    let fits = g.P.Kind.PayloadKind.fits in
    let before = seen_by g.P.Part.seen c.args.seat.now in
    let seen = seen_by g.P.Part.seen c.see_behind.new.seat in
    let lost = seen_by g.P.Part.seen c.help_on.new.seat in
    let after = seen_by g.P.Part.seen c.drop_strong.new.seat in
    let next = c.in-Ok-Some.next.slot in
    let gains = subst (λ (o : Option Handle). Leaves
    (with_found (named o) c.args.seat.now.view.core.owned) before seen)
    c.in-Ok-Some.field-0-is c.in-Ok-Some.ensures.leaves in
    why_later (λ was now. LosesPassed fits d c.args.first next was now seen lost)
    (λ was now. LosesBehind fits d c.args.first was now before after) 0 1 1 refl
    c.in-Err-help_on.error before seen c.see_behind.ensures.adds
    (ap (λ (v : CoreView). v.quota.adds) gains.same)
    (λ was now loses. inr (record {
      next = next;
      loaded = seen;
      lost = lost;
      loads = subst (λ (o : Option Handle). Loads fits d (Field c.args.first 0) next_next
          (NextTells (ends_of d)) (named o) before seen)
          c.in-Ok-Some.field-0-is c.in-Ok-Some.ensures.loads;
      loses = loses;
      drops = c.drop_strong.ensures.dropped;
    }))
    c.in-Err-help_on.ensures.why
