use Rattle.std.proofs.Common.{◌≡◌, ◌∙◌, refl, inl, inr, ap, sym, subst, arith, ◌+◌, ℕ}
use Rattle.std.specs.Prelude.{None, Option, Some}
use Rattle.queue_protocol.specs.plain_state.declared.slot.SlotId.{SlotId}
use Rattle.slot_store.specs.counted_handles.Handles.{Handle}
use Rattle.part_calls.specs.atomic_shared.Places.{named}
use Rattle.part_calls.specs.Parts.{as_part, seen_by}
use Rattle.linked_queue.specs.declared.queue.PopError.{PopError}
use Rattle.linked_queue.specs.Leaving.{Leaves, with_found}
use Rattle.linked_queue.specs.Losses.{LosesNode, LosesWith}
use Rattle.linked_queue.specs.Pops.{IsWhyLost, TakesWith, adds_of, item_in, popped_too}
use Rattle.linked_queue.specs.Queues.{deeds_in}
use Rattle.linked_queue.specs.Readings.{LeavesBeside}
use Rattle.linked_queue.specs.Seeing.{LoadsItem, MissesItem}
use Rattle.linked_queue.proofs.Leavings.{drop_leaves, drop_spent}
use Rattle.linked_queue.proofs.Losings.{few_up, spent_by, why_of, why_up}
use Rattle.linked_queue.proofs.Poppings.{leaves_on, pops_item, pops_through, some_found}
use Rattle.linked_queue.proofs.Readings.{beside_same, knows_same, may_on, unread, within}
use Rattle.linked_queue.proofs.walking.pop_node.Goals as goal

pub returns-in-Err-clause-why : goal.returns-in-Err-clause-why
returns-in-Err-clause-why g c =
    let d = as_part g.P.Part.part c.args.domain.now in
    let fits = g.P.Kind.PayloadKind.fits in
    let before = seen_by g.P.Part.seen c.args.seat.now in
    let after = seen_by g.P.Part.seen c.see_item.new.seat in
    let n = adds_of c.args.field in
    let loses = λ (seen : ℕ) (now : ℕ).
    LosesNode fits d c.args.field c.args.front c.args.next seen now before after in
    subst (λ (e : PopError). IsWhyLost loses (1 + n) e before) (sym c.refusal_of.ensures)
    (why_of (λ seen now. MissesItem fits d c.args.next seen now before after) loses (1 + n)
    c.in-Err.error before (λ seen now m. inl m) c.in-Err.ensures.why)

pub returns-in-Ok-None-clause-why : goal.returns-in-Ok-None-clause-why
returns-in-Ok-None-clause-why g c =
    let d = as_part g.P.Part.part c.args.domain.now in
    let fits = g.P.Kind.PayloadKind.fits in
    let before = seen_by g.P.Part.seen c.args.seat.now in
    let seen = seen_by g.P.Part.seen c.see_item.new.seat in
    inr (inl (
      c.held_as-seen.ensures,
      record {
        mid = seen;
        null = subst (λ (o : Option Handle). LoadsItem fits d c.args.next (named o) before seen)
            c.in-Ok-None.field-0-is c.in-Ok-None.ensures.loads;
        looks = c.see_gone-now.ensures.looks;
        other = c.see_gone-now.ensures.other;
      },
    ))

pub returns-in-Ok-None-clause-popped : goal.returns-in-Ok-None-clause-popped
returns-in-Ok-None-clause-popped g c =
    let before = seen_by g.P.Part.seen c.args.seat.now in
    let seen = seen_by g.P.Part.seen c.see_item.new.seat in
    let after = seen_by g.P.Part.seen c.see_gone-now.new.seat in
    let none = subst (λ (o : Option Handle). Leaves
    (with_found (named o) c.args.seat.now.view.core.owned) before seen)
    c.in-Ok-None.field-0-is c.in-Ok-None.ensures.leaves in
    record {
      leaves = leaves_on c.args.seat.now.view.core.owned before seen after none
          c.see_gone-now.ensures.leaves;
      deeds = ap deeds_in c.see_gone-now.ensures.client ∙ ap deeds_in c.see_item.ensures.beside;
    }

pub returns-in-Ok-clause-events : goal.returns-in-Ok-clause-events
returns-in-Ok-clause-events g c =
    let d = as_part g.P.Part.part c.args.domain.now in
    let fits = g.P.Kind.PayloadKind.fits in
    let before = seen_by g.P.Part.seen c.args.seat.now in
    let seen = seen_by g.P.Part.seen c.see_item.new.seat in
    let after = seen_by g.P.Part.seen c.take_with.new.seat in
    record {
      seen = seen;
      loads = subst (λ (o : Option Handle). LoadsItem fits d c.args.next (named o) before seen)
          c.in-Ok-Some.field-0-is c.in-Ok-Some.ensures.loads;
      takes = subst (λ (s : SlotId). TakesWith fits d c.args.field c.args.front c.args.next s
          (named c.in-Ok.content) seen after)
          c.slot.ensures c.in-Ok.ensures.takes;
    }

pub returns-in-Ok-clause-popped : goal.returns-in-Ok-clause-popped
returns-in-Ok-clause-popped g c =
    let before = seen_by g.P.Part.seen c.args.seat.now in
    let seen = seen_by g.P.Part.seen c.see_item.new.seat in
    let after = seen_by g.P.Part.seen c.take_with.new.seat in
    let gains = subst (λ (o : Option Handle). Leaves
    (with_found (named o) c.args.seat.now.view.core.owned) before seen)
    c.in-Ok-Some.field-0-is c.in-Ok-Some.ensures.leaves in
    pops_item c.in-Ok-Some.item.slot (named c.in-Ok.content) before seen after gains
    c.in-Ok.ensures.leaves (ap deeds_in c.see_item.ensures.beside)
    (subst (λ (s : SlotId). deeds_in after.view.client
    ≡ popped_too (item_in seen s) (deeds_in seen.view.client))
    c.slot.ensures c.in-Ok.ensures.popped)

pub drop_strong-requires-clause-owned : goal.drop_strong-requires-clause-owned
drop_strong-requires-clause-owned g c =
    let gains = subst (λ (o : Option Handle). Leaves
    (with_found (named o) c.args.seat.now.view.core.owned) (seen_by g.P.Part.seen c.args.seat.now)
    (seen_by g.P.Part.seen c.see_item.new.seat))
    c.in-Ok-Some.field-0-is c.in-Ok-Some.ensures.leaves in
    let s = c.in-Ok-Some.item.slot in
    let at = gains.owns s in
    let late = c.in-Err-take_with.ensures.leaves.owns s in
    let some' = some_found s c.args.seat.now.view.core.owned in omega arith

pub returns-in-Err-take_with-clause-popped : goal.returns-in-Err-take_with-clause-popped
returns-in-Err-take_with-clause-popped g c =
    let before = seen_by g.P.Part.seen c.args.seat.now in
    let seen = seen_by g.P.Part.seen c.see_item.new.seat in
    let lost = seen_by g.P.Part.seen c.take_with.new.seat in
    let after = seen_by g.P.Part.seen c.drop_strong.new.seat in
    let gains = subst (λ (o : Option Handle). Leaves
    (with_found (named o) c.args.seat.now.view.core.owned) before seen)
    c.in-Ok-Some.field-0-is c.in-Ok-Some.ensures.leaves in
    pops_through c.in-Ok-Some.item.slot before seen lost after None gains
    (ap deeds_in c.see_item.ensures.beside)
    (record {
      leaves = c.in-Err-take_with.ensures.leaves;
      deeds = c.in-Err-take_with.ensures.refused;
    })
    (drop_leaves c.in-Ok-Some.item.slot lost after c.drop_strong.ensures.dropped
    c.drop_strong.ensures.objects)
    c.drop_strong.ensures.seen

pub returns-in-Err-take_with-clause-why : goal.returns-in-Err-take_with-clause-why
returns-in-Err-take_with-clause-why g c =
    let d = as_part g.P.Part.part c.args.domain.now in
    let fits = g.P.Kind.PayloadKind.fits in
    let before = seen_by g.P.Part.seen c.args.seat.now in
    let seen = seen_by g.P.Part.seen c.see_item.new.seat in
    let lost = seen_by g.P.Part.seen c.take_with.new.seat in
    let after = seen_by g.P.Part.seen c.drop_strong.new.seat in
    let n = adds_of c.args.field in
    let gains = subst (λ (o : Option Handle). Leaves
    (with_found (named o) c.args.seat.now.view.core.owned) before seen)
    c.in-Ok-Some.field-0-is c.in-Ok-Some.ensures.leaves in
    why_up (λ was now.
    LosesWith fits d c.args.field c.args.front c.args.next c.slot.result was now seen lost)
    (λ was now. LosesNode fits d c.args.field c.args.front c.args.next was now before after)
    n (1 + n) c.in-Err-take_with.error before seen
    (λ was now loses. inr (inr (record {
      item = c.in-Ok-Some.item.slot;
      loaded = seen;
      lost = lost;
      loads = subst (λ (o : Option Handle). LoadsItem fits d c.args.next (named o) before seen)
          c.in-Ok-Some.field-0-is c.in-Ok-Some.ensures.loads;
      loses = subst (λ (s : SlotId).
          LosesWith fits d c.args.field c.args.front c.args.next s was now seen lost)
          c.slot.ensures loses;
      drops = c.drop_strong.ensures.dropped;
    })))
    (few_up n (1 + n) 1 before seen c.see_item.ensures.adds gains.same (omega arith))
    c.in-Err-take_with.ensures.why

pub returns-in-Err-clause-spent : goal.returns-in-Err-clause-spent
returns-in-Err-clause-spent g c = λ is.
    c.in-Err.ensures.spent (spent_by c.in-Err.error (sym c.refusal_of.ensures ∙ is))

pub returns-in-Err-take_with-clause-spent : goal.returns-in-Err-take_with-clause-spent
returns-in-Err-take_with-clause-spent g c = λ is.
    drop_spent c.in-Ok-Some.item.slot (seen_by g.P.Part.seen c.take_with.new.seat)
    (seen_by g.P.Part.seen c.drop_strong.new.seat) c.drop_strong.ensures.dropped
    (c.in-Err-take_with.ensures.spent is)

pub take_with-requires-clause-deed : goal.take_with-requires-clause-deed
take_with-requires-clause-deed g c =
    may_on g.P.Kind.PayloadKind.fits c.args.domain.now g.P.Part.seen g.P.Part.with_seen
    (g.D.Deed.ready c.args.deed c.args.domain.now.protocol)
    (g.D.Deed.next c.args.deed c.args.domain.now.protocol) c.args.field c.args.seat.now c.see_item.new.seat
    c.see_item.ensures.beside_part c.requires.deed

pub returns-in-Err-clause-beside : goal.returns-in-Err-clause-beside
returns-in-Err-clause-beside g c =
    unread g.P.Kind.PayloadKind.fits c.args.domain.now g.P.Part.seen g.P.Part.with_seen
    (g.D.Deed.next c.args.deed c.args.domain.now.protocol)
    (g.D.Deed.allows c.args.deed c.args.domain.now.protocol)
    c.args.field c.args.seat.now c.see_item.new.seat c.see_item.ensures.beside_part

pub returns-in-Ok-None-clause-beside : goal.returns-in-Ok-None-clause-beside
returns-in-Ok-None-clause-beside g c =
    unread g.P.Kind.PayloadKind.fits c.args.domain.now g.P.Part.seen g.P.Part.with_seen
    (g.D.Deed.next c.args.deed c.args.domain.now.protocol)
    (g.D.Deed.allows c.args.deed c.args.domain.now.protocol)
    c.args.field c.args.seat.now c.see_gone-now.new.seat
    (c.see_gone-now.ensures.beside_part ∙ c.see_item.ensures.beside_part)

pub returns-in-Ok-clause-beside : goal.returns-in-Ok-clause-beside
returns-in-Ok-clause-beside g c =
    let gains = subst (λ (o : Option Handle). Leaves
    (with_found (named o) c.args.seat.now.view.core.owned) (seen_by g.P.Part.seen c.args.seat.now)
    (seen_by g.P.Part.seen c.see_item.new.seat))
    c.in-Ok-Some.field-0-is c.in-Ok-Some.ensures.leaves in
    let found = Some (c.in-Ok-Some.item.slot, named c.in-Ok.content) in
    within g.P.Kind.PayloadKind.fits c.args.domain.now g.P.Part.seen g.P.Part.with_seen
    (g.D.Deed.next c.args.deed c.args.domain.now.protocol)
    (g.D.Deed.allows c.args.deed c.args.domain.now.protocol)
    c.args.field found c.args.seat.now c.see_item.new.seat c.take_with.new.seat
    c.take_with.new.seat
    (record { same = c.see_item.ensures.beside_part; trail = gains.trail })
    (subst (λ (s : SlotId). LeavesBeside g.P.Kind.PayloadKind.fits c.args.domain.now
    g.P.Part.with_seen (g.D.Deed.next c.args.deed c.args.domain.now.protocol)
    (g.D.Deed.allows c.args.deed c.args.domain.now.protocol) c.args.field
    (Some (s, named c.in-Ok.content)) c.see_item.new.seat c.take_with.new.seat)
    c.slot.ensures c.in-Ok.ensures.beside)
    (beside_same g.P.Part.with_seen c.take_with.new.seat c.take_with.new.seat refl)
    (knows_same c.in-Ok-Some.item.slot (named c.in-Ok.content) c.take_with.new.seat)

pub returns-in-Err-take_with-clause-beside : goal.returns-in-Err-take_with-clause-beside
returns-in-Err-take_with-clause-beside g c =
    let gains = subst (λ (o : Option Handle). Leaves
    (with_found (named o) c.args.seat.now.view.core.owned) (seen_by g.P.Part.seen c.args.seat.now)
    (seen_by g.P.Part.seen c.see_item.new.seat))
    c.in-Ok-Some.field-0-is c.in-Ok-Some.ensures.leaves in
    let lost = seen_by g.P.Part.seen c.take_with.new.seat in
    let after = seen_by g.P.Part.seen c.drop_strong.new.seat in
    let gives = drop_leaves c.in-Ok-Some.item.slot lost after c.drop_strong.ensures.dropped
    c.drop_strong.ensures.objects in
    within g.P.Kind.PayloadKind.fits c.args.domain.now g.P.Part.seen g.P.Part.with_seen
    (g.D.Deed.next c.args.deed c.args.domain.now.protocol)
    (g.D.Deed.allows c.args.deed c.args.domain.now.protocol)
    c.args.field None c.args.seat.now c.see_item.new.seat c.take_with.new.seat
    c.drop_strong.new.seat
    (record { same = c.see_item.ensures.beside_part; trail = gains.trail })
    c.in-Err-take_with.ensures.beside
    (record { same = c.drop_strong.ensures.beside; trail = gives.trail })
    tt
