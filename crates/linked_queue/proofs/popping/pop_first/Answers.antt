use Rattle.std.proofs.Common.{◌≡◌, ◌∙◌, inl, inr, ap, sym, subst, arith, ◌+◌}
use Rattle.queue_protocol.specs.plain_state.declared.slot.SlotId.{SlotId}
use Rattle.slot_store.proofs.Below.acquire_retire_Wholes.{then_ok}
use Rattle.slot_store.specs.control_word.Resting.{IsSpent}
use Rattle.part_calls.specs.Parts.{as_part, seen_by}
use Rattle.linked_queue.specs.declared.queue.PopError.{PopError}
use Rattle.linked_queue.specs.declared.queue.PopError.TheVariants as unpopped
use Rattle.linked_queue.specs.Losses.{IsWhyUnpopped, LosesAtHead, LosesBehind}
use Rattle.linked_queue.specs.Pops.{IsWhyLost, PopsAtHeadWith, PopsBehind, adds_of, both_by, named_both}
use Rattle.linked_queue.specs.Queues.{deeds_in}
use Rattle.linked_queue.specs.Seeing.{MissesHead}
use Rattle.linked_queue.proofs.Both.{both_left}
use Rattle.linked_queue.proofs.Leavings.{drop_leaves, drop_spent, then_err}
use Rattle.linked_queue.proofs.Losings.{few_up, spent_by, why_of, why_up}
use Rattle.linked_queue.proofs.Poppings.{pops_through}
use Rattle.linked_queue.proofs.Readings.{may_on, through_beside, unread}
use Rattle.linked_queue.proofs.popping.pop_first.Goals as goal

pub returns-in-Err-clause-why : goal.returns-in-Err-clause-why
returns-in-Err-clause-why g c =
    let d = as_part g.P.Part.part c.args.domain.now in
    let fits = g.P.Kind.PayloadKind.fits in
    let before = seen_by g.P.Part.seen c.args.seat.now in
    let after = seen_by g.P.Part.seen c.see_head.new.seat in
    subst (λ (e : PopError). IsWhyUnpopped fits d c.args.field (3 + adds_of c.args.field) e before
    after)
    (sym c.refusal_of.ensures)
    (why_of (λ seen now. MissesHead fits d seen now before after)
    (λ seen now. LosesAtHead fits d c.args.field seen now before after)
    (3 + adds_of c.args.field) c.in-Err.error before (λ seen now m. inl m) c.in-Err.ensures.why)

pub drop_strong-requires-clause-owned : goal.drop_strong-requires-clause-owned
drop_strong-requires-clause-owned g c =
    both_left c.in-Ok.front.slot (both_by c.pop_behind-popped.result)
    c.args.seat.now.view.core.owned c.see_head.new.seat.view.core.owned
    c.pop_behind-popped.new.seat.view.core.owned c.in-Ok.ensures.leaves.owns
    c.pop_behind-popped.ensures.popped.leaves.owns

pub returns-clause-events : goal.returns-clause-events
returns-clause-events g c =
    let d = as_part g.P.Part.part c.args.domain.now in
    let fits = g.P.Kind.PayloadKind.fits in
    let before = seen_by g.P.Part.seen c.args.seat.now in
    let seen = seen_by g.P.Part.seen c.see_head.new.seat in
    let popped = seen_by g.P.Part.seen c.pop_behind-popped.new.seat in
    let after = seen_by g.P.Part.seen c.drop_strong.new.seat in
    then_ok (λ found. PopsBehind fits d c.args.field c.slot.result (named_both found) seen popped)
    (λ found. PopsAtHeadWith fits d c.args.field (named_both found) before after)
    c.pop_behind-popped.result
    (λ found pops. record {
      front = c.in-Ok.front.slot;
      seen = seen;
      popped = popped;
      loads = c.in-Ok.ensures.loads;
      pops = subst (λ (s : SlotId). PopsBehind fits d c.args.field s (named_both found) seen popped)
          c.slot.ensures pops;
      drops = c.drop_strong.ensures.dropped;
    })
    c.pop_behind-popped.ensures.events

pub returns-clause-popped : goal.returns-clause-popped
returns-clause-popped g c =
    let popped = seen_by g.P.Part.seen c.pop_behind-popped.new.seat in
    let after = seen_by g.P.Part.seen c.drop_strong.new.seat in
    pops_through c.in-Ok.front.slot (seen_by g.P.Part.seen c.args.seat.now)
    (seen_by g.P.Part.seen c.see_head.new.seat) popped after
    (both_by c.pop_behind-popped.result) c.in-Ok.ensures.leaves
    (ap deeds_in c.see_head.ensures.beside) c.pop_behind-popped.ensures.popped
    (drop_leaves c.in-Ok.front.slot popped after c.drop_strong.ensures.dropped
    c.drop_strong.ensures.objects)
    c.drop_strong.ensures.seen

pub returns-clause-why : goal.returns-clause-why
returns-clause-why g c =
    let d = as_part g.P.Part.part c.args.domain.now in
    let fits = g.P.Kind.PayloadKind.fits in
    let before = seen_by g.P.Part.seen c.args.seat.now in
    let seen = seen_by g.P.Part.seen c.see_head.new.seat in
    let popped = seen_by g.P.Part.seen c.pop_behind-popped.new.seat in
    let after = seen_by g.P.Part.seen c.drop_strong.new.seat in
    let n = adds_of c.args.field in
    then_err (λ error. IsWhyLost (λ was now.
    LosesBehind fits d c.args.field c.slot.result was now seen popped) (2 + n) error seen)
    (λ error. IsWhyUnpopped fits d c.args.field (3 + n) error before after)
    c.pop_behind-popped.result
    (λ error why. why_up
    (λ was now. LosesBehind fits d c.args.field c.slot.result was now seen popped)
    (λ was now. LosesAtHead fits d c.args.field was now before after) (2 + n) (3 + n) error before
    seen
    (λ was now loses. inr (record {
      front = c.in-Ok.front.slot;
      loaded = seen;
      lost = popped;
      loads = c.in-Ok.ensures.loads;
      loses = subst (λ (s : SlotId). LosesBehind fits d c.args.field s was now seen popped)
          c.slot.ensures loses;
      drops = c.drop_strong.ensures.dropped;
    }))
    (few_up (2 + n) (3 + n) 1 before seen c.see_head.ensures.adds c.in-Ok.ensures.leaves.same
    (omega arith))
    why)
    c.pop_behind-popped.ensures.why

pub returns-in-Err-clause-spent : goal.returns-in-Err-clause-spent
returns-in-Err-clause-spent g c = λ is.
    c.in-Err.ensures.spent (spent_by c.in-Err.error (sym c.refusal_of.ensures ∙ is))

pub returns-clause-spent : goal.returns-clause-spent
returns-clause-spent g c =
    then_err (λ error. error ≡ unpopped.Spent → IsSpent c.pop_behind-popped.new.seat.view.core)
    (λ error. error ≡ unpopped.Spent → IsSpent c.drop_strong.new.seat.view.core)
    c.pop_behind-popped.result
    (λ error spent is. drop_spent c.in-Ok.front.slot
    (seen_by g.P.Part.seen c.pop_behind-popped.new.seat) (seen_by g.P.Part.seen c.drop_strong.new.seat)
    c.drop_strong.ensures.dropped (spent is))
    c.pop_behind-popped.ensures.spent

pub pop_behind-popped-requires-clause-deed : goal.pop_behind-popped-requires-clause-deed
pop_behind-popped-requires-clause-deed g c =
    may_on g.P.Kind.PayloadKind.fits c.args.domain.now g.P.Part.seen g.P.Part.with_seen
    (g.D.Deed.ready c.args.deed c.args.domain.now.protocol)
    (g.D.Deed.next c.args.deed c.args.domain.now.protocol) c.args.field c.args.seat.now c.see_head.new.seat
    c.see_head.ensures.beside_part c.requires.deed

pub returns-in-Err-clause-beside : goal.returns-in-Err-clause-beside
returns-in-Err-clause-beside g c =
    unread g.P.Kind.PayloadKind.fits c.args.domain.now g.P.Part.seen g.P.Part.with_seen
    (g.D.Deed.next c.args.deed c.args.domain.now.protocol)
    (g.D.Deed.allows c.args.deed c.args.domain.now.protocol)
    c.args.field c.args.seat.now c.see_head.new.seat c.see_head.ensures.beside_part

pub returns-clause-beside : goal.returns-clause-beside
returns-clause-beside g c =
    let popped = seen_by g.P.Part.seen c.pop_behind-popped.new.seat in
    let after = seen_by g.P.Part.seen c.drop_strong.new.seat in
    let gives = drop_leaves c.in-Ok.front.slot popped after c.drop_strong.ensures.dropped
    c.drop_strong.ensures.objects in
    let all = pops_through c.in-Ok.front.slot (seen_by g.P.Part.seen c.args.seat.now)
    (seen_by g.P.Part.seen c.see_head.new.seat) popped after
    (both_by c.pop_behind-popped.result) c.in-Ok.ensures.leaves
    (ap deeds_in c.see_head.ensures.beside) c.pop_behind-popped.ensures.popped gives
    c.drop_strong.ensures.seen in
    through_beside g.P.Kind.PayloadKind.fits c.args.domain.now g.P.Part.seen g.P.Part.with_seen
    (g.D.Deed.next c.args.deed c.args.domain.now.protocol)
    (g.D.Deed.allows c.args.deed c.args.domain.now.protocol)
    c.args.field (both_by c.pop_behind-popped.result) c.in-Ok.front.slot
    _ c.args.seat.now c.see_head.new.seat c.pop_behind-popped.new.seat c.drop_strong.new.seat
    c.see_head.ensures.beside_part c.in-Ok.ensures.leaves c.pop_behind-popped.ensures.beside
    c.pop_behind-popped.ensures.popped.leaves c.drop_strong.ensures.beside gives all.leaves
