use Rattle.std.proofs.Common.{◌∙◌, inl, inr, ap, sym, subst, arith, ◌+◌, ℕ}
use Rattle.std.specs.Prelude.{None, Option, Some}
use Rattle.queue_protocol.specs.plain_state.declared.act.EventPlace.TheVariants.{Field}
use Rattle.queue_protocol.specs.plain_state.declared.slot.SlotId.{SlotId}
use Rattle.slot_store.specs.counted_handles.Handles.{Handle}
use Rattle.part_calls.specs.atomic_shared.Places.{named}
use Rattle.part_calls.specs.Parts.{as_part, seen_by}
use Rattle.part_calls.specs.protected_loads.References.{Loads}
use Rattle.queue_protocol.specs.queue_law.Lessons.{NextTells, next_next}
use Rattle.linked_queue.specs.declared.queue.PopError.{PopError}
use Rattle.linked_queue.specs.Leaving.{Leaves, with_found}
use Rattle.linked_queue.specs.Losses.{LosesBehind, LosesNode}
use Rattle.linked_queue.specs.Pops.{IsWhyLost, TakesItem, adds_of, named_both, pair_by}
use Rattle.linked_queue.specs.Queues.{deeds_in, ends_of}
use Rattle.linked_queue.specs.Seeing.{MissesNext}
use Rattle.linked_queue.proofs.Both.{both_left}
use Rattle.linked_queue.proofs.Leavings.{drop_leaves, drop_makes, drop_spent}
use Rattle.linked_queue.proofs.Losings.{few_up, spent_by, why_of, why_up}
use Rattle.linked_queue.proofs.Poppings.{pops_through}
use Rattle.linked_queue.proofs.Readings.{may_on, through_beside, unread}
use Rattle.linked_queue.proofs.walking.pop_behind.Goals as goal

pub returns-in-Err-clause-why : goal.returns-in-Err-clause-why
returns-in-Err-clause-why g c =
    let d = as_part g.P.Part.part c.args.domain.now in
    let fits = g.P.Kind.PayloadKind.fits in
    let before = seen_by g.P.Part.seen c.args.seat.now in
    let after = seen_by g.P.Part.seen c.see_next.new.seat in
    let n = adds_of c.args.field in
    let loses = λ (seen : ℕ) (now : ℕ). LosesBehind fits d c.args.field c.args.front seen now before after in
    subst (λ (e : PopError). IsWhyLost loses (2 + n) e before) (sym c.refusal_of.ensures)
    (why_of (λ seen now. MissesNext fits d c.args.front seen now before after) loses (2 + n)
    c.in-Err.error before (λ seen now m. inl m) c.in-Err.ensures.why)

pub returns-in-Ok-None-clause-events : goal.returns-in-Ok-None-clause-events
returns-in-Ok-None-clause-events g c =
    c.in-Ok-None.ensures.none (ap named c.in-Ok-None.field-0-is)

pub drop_strong-requires-clause-owned : goal.drop_strong-requires-clause-owned
drop_strong-requires-clause-owned g c =
    let gains = subst (λ (o : Option Handle). Leaves
    (with_found (named o) c.args.seat.now.view.core.owned) (seen_by g.P.Part.seen c.args.seat.now) (seen_by g.P.Part.seen c.see_next.new.seat))
    c.in-Ok-Some.field-0-is c.in-Ok-Some.ensures.leaves in
    both_left c.in-Ok-Some.next.slot (pair_by c.pop_node-popped.result)
    c.args.seat.now.view.core.owned c.see_next.new.seat.view.core.owned
    c.pop_node-popped.new.seat.view.core.owned gains.owns
    c.pop_node-popped.ensures.popped.leaves.owns

pub returns-in-Ok-clause-events : goal.returns-in-Ok-clause-events
returns-in-Ok-clause-events g c =
    let d = as_part g.P.Part.part c.args.domain.now in
    let fits = g.P.Kind.PayloadKind.fits in
    let before = seen_by g.P.Part.seen c.args.seat.now in
    let seen = seen_by g.P.Part.seen c.see_next.new.seat in
    let popped = seen_by g.P.Part.seen c.pop_node-popped.new.seat in
    record {
      next = c.in-Ok-Some.next.slot;
      seen = seen;
      popped = popped;
      loads = subst (λ (o : Option Handle). Loads fits d (Field c.args.front 0) next_next
          (NextTells (ends_of d)) (named o) before seen)
          c.in-Ok-Some.field-0-is c.in-Ok-Some.ensures.loads;
      takes = subst (λ (s : SlotId). TakesItem fits d c.args.field c.args.front s
          c.in-Ok.found.0.slot (named c.in-Ok.found.1) seen popped)
          c.slot.ensures c.in-Ok.ensures.events;
      drops = c.drop_strong.ensures.dropped;
    }

pub returns-in-Ok-clause-popped : goal.returns-in-Ok-clause-popped
returns-in-Ok-clause-popped g c =
    let before = seen_by g.P.Part.seen c.args.seat.now in
    let seen = seen_by g.P.Part.seen c.see_next.new.seat in
    let popped = seen_by g.P.Part.seen c.pop_node-popped.new.seat in
    let after = seen_by g.P.Part.seen c.drop_strong.new.seat in
    let gains = subst (λ (o : Option Handle). Leaves
    (with_found (named o) c.args.seat.now.view.core.owned) before seen)
    c.in-Ok-Some.field-0-is c.in-Ok-Some.ensures.leaves in
    pops_through c.in-Ok-Some.next.slot before seen popped after
    (named_both (Some c.in-Ok.found)) gains
    (ap deeds_in c.see_next.ensures.beside) c.in-Ok.ensures.popped
    (drop_leaves c.in-Ok-Some.next.slot popped after c.drop_strong.ensures.dropped
    c.drop_strong.ensures.objects)
    c.drop_strong.ensures.seen

pub returns-in-Err-popped-clause-popped : goal.returns-in-Err-popped-clause-popped
returns-in-Err-popped-clause-popped g c =
    let before = seen_by g.P.Part.seen c.args.seat.now in
    let seen = seen_by g.P.Part.seen c.see_next.new.seat in
    let popped = seen_by g.P.Part.seen c.pop_node-popped.new.seat in
    let after = seen_by g.P.Part.seen c.drop_strong.new.seat in
    let gains = subst (λ (o : Option Handle). Leaves
    (with_found (named o) c.args.seat.now.view.core.owned) before seen)
    c.in-Ok-Some.field-0-is c.in-Ok-Some.ensures.leaves in
    pops_through c.in-Ok-Some.next.slot before seen popped after None gains
    (ap deeds_in c.see_next.ensures.beside) c.in-Err-popped.ensures.popped
    (drop_leaves c.in-Ok-Some.next.slot popped after c.drop_strong.ensures.dropped
    c.drop_strong.ensures.objects)
    c.drop_strong.ensures.seen

pub returns-in-Err-popped-clause-why : goal.returns-in-Err-popped-clause-why
returns-in-Err-popped-clause-why g c =
    let d = as_part g.P.Part.part c.args.domain.now in
    let fits = g.P.Kind.PayloadKind.fits in
    let before = seen_by g.P.Part.seen c.args.seat.now in
    let seen = seen_by g.P.Part.seen c.see_next.new.seat in
    let popped = seen_by g.P.Part.seen c.pop_node-popped.new.seat in
    let after = seen_by g.P.Part.seen c.drop_strong.new.seat in
    let n = adds_of c.args.field in
    let gains = subst (λ (o : Option Handle). Leaves
    (with_found (named o) c.args.seat.now.view.core.owned) before seen)
    c.in-Ok-Some.field-0-is c.in-Ok-Some.ensures.leaves in
    why_up (λ was now. LosesNode fits d c.args.field c.args.front c.slot.result was now seen popped)
    (λ was now. LosesBehind fits d c.args.field c.args.front was now before after)
    (1 + n) (2 + n) c.in-Err-popped.error before seen
    (λ was now loses. inr (record {
      next = c.in-Ok-Some.next.slot;
      loaded = seen;
      lost = popped;
      loads = subst (λ (o : Option Handle). Loads fits d (Field c.args.front 0) next_next
          (NextTells (ends_of d)) (named o) before seen)
          c.in-Ok-Some.field-0-is c.in-Ok-Some.ensures.loads;
      loses = subst (λ (s : SlotId). LosesNode fits d c.args.field c.args.front s was now seen popped)
          c.slot.ensures loses;
      drops = c.drop_strong.ensures.dropped;
    }))
    (few_up (1 + n) (2 + n) 1 before seen c.see_next.ensures.adds gains.same (omega arith))
    c.in-Err-popped.ensures.why

pub returns-in-Err-clause-spent : goal.returns-in-Err-clause-spent
returns-in-Err-clause-spent g c = λ is.
    c.in-Err.ensures.spent (spent_by c.in-Err.error (sym c.refusal_of.ensures ∙ is))

pub returns-in-Err-popped-clause-spent : goal.returns-in-Err-popped-clause-spent
returns-in-Err-popped-clause-spent g c = λ is.
    drop_spent c.in-Ok-Some.next.slot (seen_by g.P.Part.seen c.pop_node-popped.new.seat)
    (seen_by g.P.Part.seen c.drop_strong.new.seat) c.drop_strong.ensures.dropped
    (c.in-Err-popped.ensures.spent is)

pub returns-in-Ok-clause-makes : goal.returns-in-Ok-clause-makes
returns-in-Ok-clause-makes g c =
    drop_makes c.in-Ok-Some.next.slot (seen_by g.P.Part.seen c.pop_node-popped.new.seat)
    (seen_by g.P.Part.seen c.drop_strong.new.seat) c.drop_strong.ensures.dropped
    ∙ c.pop_node-popped.ensures.makes ∙ c.see_next.ensures.makes

pub returns-in-Err-popped-clause-makes : goal.returns-in-Err-popped-clause-makes
returns-in-Err-popped-clause-makes g c =
    drop_makes c.in-Ok-Some.next.slot (seen_by g.P.Part.seen c.pop_node-popped.new.seat)
    (seen_by g.P.Part.seen c.drop_strong.new.seat) c.drop_strong.ensures.dropped
    ∙ c.pop_node-popped.ensures.makes ∙ c.see_next.ensures.makes

pub pop_node-popped-requires-clause-deed : goal.pop_node-popped-requires-clause-deed
pop_node-popped-requires-clause-deed g c =
    may_on g.P.Kind.PayloadKind.fits c.args.domain.now g.P.Part.seen g.P.Part.with_seen
    (g.D.Deed.ready c.args.deed c.args.domain.now.protocol)
    (g.D.Deed.next c.args.deed c.args.domain.now.protocol) c.args.field c.args.seat.now c.see_next.new.seat
    c.see_next.ensures.beside_part c.requires.deed

pub returns-in-Err-clause-beside : goal.returns-in-Err-clause-beside
returns-in-Err-clause-beside g c =
    unread g.P.Kind.PayloadKind.fits c.args.domain.now g.P.Part.seen g.P.Part.with_seen
    (g.D.Deed.next c.args.deed c.args.domain.now.protocol)
    (g.D.Deed.allows c.args.deed c.args.domain.now.protocol)
    c.args.field c.args.seat.now c.see_next.new.seat c.see_next.ensures.beside_part

pub returns-in-Ok-None-clause-beside : goal.returns-in-Ok-None-clause-beside
returns-in-Ok-None-clause-beside g c =
    unread g.P.Kind.PayloadKind.fits c.args.domain.now g.P.Part.seen g.P.Part.with_seen
    (g.D.Deed.next c.args.deed c.args.domain.now.protocol)
    (g.D.Deed.allows c.args.deed c.args.domain.now.protocol)
    c.args.field c.args.seat.now c.see_next.new.seat c.see_next.ensures.beside_part

pub returns-in-Ok-clause-beside : goal.returns-in-Ok-clause-beside
returns-in-Ok-clause-beside g c =
    let gains = subst (λ (o : Option Handle). Leaves
    (with_found (named o) c.args.seat.now.view.core.owned) (seen_by g.P.Part.seen c.args.seat.now)
    (seen_by g.P.Part.seen c.see_next.new.seat))
    c.in-Ok-Some.field-0-is c.in-Ok-Some.ensures.leaves in
    let popped = seen_by g.P.Part.seen c.pop_node-popped.new.seat in
    let after = seen_by g.P.Part.seen c.drop_strong.new.seat in
    let gives = drop_leaves c.in-Ok-Some.next.slot popped after c.drop_strong.ensures.dropped
    c.drop_strong.ensures.objects in
    let all = pops_through c.in-Ok-Some.next.slot (seen_by g.P.Part.seen c.args.seat.now)
    (seen_by g.P.Part.seen c.see_next.new.seat) popped after (named_both (Some c.in-Ok.found)) gains
    (ap deeds_in c.see_next.ensures.beside) c.in-Ok.ensures.popped gives
    c.drop_strong.ensures.seen in
    through_beside g.P.Kind.PayloadKind.fits c.args.domain.now g.P.Part.seen g.P.Part.with_seen
    (g.D.Deed.next c.args.deed c.args.domain.now.protocol)
    (g.D.Deed.allows c.args.deed c.args.domain.now.protocol)
    c.args.field (named_both (Some c.in-Ok.found)) c.in-Ok-Some.next.slot
    _ c.args.seat.now c.see_next.new.seat c.pop_node-popped.new.seat c.drop_strong.new.seat
    c.see_next.ensures.beside_part gains c.in-Ok.ensures.beside c.in-Ok.ensures.popped.leaves
    c.drop_strong.ensures.beside gives all.leaves

pub returns-in-Err-popped-clause-beside : goal.returns-in-Err-popped-clause-beside
returns-in-Err-popped-clause-beside g c =
    let gains = subst (λ (o : Option Handle). Leaves
    (with_found (named o) c.args.seat.now.view.core.owned) (seen_by g.P.Part.seen c.args.seat.now)
    (seen_by g.P.Part.seen c.see_next.new.seat))
    c.in-Ok-Some.field-0-is c.in-Ok-Some.ensures.leaves in
    let popped = seen_by g.P.Part.seen c.pop_node-popped.new.seat in
    let after = seen_by g.P.Part.seen c.drop_strong.new.seat in
    let gives = drop_leaves c.in-Ok-Some.next.slot popped after c.drop_strong.ensures.dropped
    c.drop_strong.ensures.objects in
    let all = pops_through c.in-Ok-Some.next.slot (seen_by g.P.Part.seen c.args.seat.now)
    (seen_by g.P.Part.seen c.see_next.new.seat) popped after None gains
    (ap deeds_in c.see_next.ensures.beside) c.in-Err-popped.ensures.popped gives
    c.drop_strong.ensures.seen in
    through_beside g.P.Kind.PayloadKind.fits c.args.domain.now g.P.Part.seen g.P.Part.with_seen
    (g.D.Deed.next c.args.deed c.args.domain.now.protocol)
    (g.D.Deed.allows c.args.deed c.args.domain.now.protocol)
    c.args.field None c.in-Ok-Some.next.slot
    _ c.args.seat.now c.see_next.new.seat c.pop_node-popped.new.seat c.drop_strong.new.seat
    c.see_next.ensures.beside_part gains c.in-Err-popped.ensures.beside
    c.in-Err-popped.ensures.popped.leaves c.drop_strong.ensures.beside gives all.leaves
