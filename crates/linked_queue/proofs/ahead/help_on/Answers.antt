use Rattle.std.proofs.Common.{ap, refl, subst, arith, ℕ}
use Rattle.std.specs.Prelude.{Option}
use Rattle.queue_protocol.specs.plain_state.declared.slot.SlotId.{SlotId}
use Rattle.slot_store.specs.core_events.declared.view.CoreView.{CoreView}
use Rattle.slot_store.proofs.Below.acquire_retire_Wholes.{then_ok}
use Rattle.part_calls.specs.Parts.{as_part, seen_by}
use Rattle.linked_queue.specs.Pushes.{Helps, HelpsOn, IsWhyUnlinked, LooksAhead}
use Rattle.linked_queue.specs.PushLosses.{LosesPassed}
use Rattle.linked_queue.proofs.Leavings.{then_err}
use Rattle.linked_queue.proofs.Linkings.{why_later}
use Rattle.linked_queue.proofs.Poppings.{leaves_on}
use Rattle.linked_queue.proofs.ahead.help_on.Goals as goal

-- nothing was linked behind the next node
pub returns-in-None-clause-helps : goal.returns-in-None-clause-helps
returns-in-None-clause-helps g c =
    let d = as_part g.P.Part.part c.args.domain.now in
    let fits = g.P.Kind.PayloadKind.fits in
    let before = seen_by g.P.Part.seen c.args.seat.now in
    let looked = seen_by g.P.Part.seen c.look_ahead.new.seat in
    let after = seen_by g.P.Part.seen c.help.new.seat in
    then_ok (λ done. Helps fits d c.args.first c.args.next.now.slot looked after)
    (λ done. HelpsOn fits d c.args.first c.args.next.now.slot before after) c.help.result
    (λ done helps. record {
      looked = looked;
      null = subst (λ (x : SlotId × Option SlotId). LooksAhead fits d x.0 x.1 before looked)
          (λ i. (c.slot.ensures i, c.in-None.is i)) c.look_ahead.ensures.looks;
      helps = helps;
    })
    c.help.ensures.helps

pub returns-in-None-clause-leaves : goal.returns-in-None-clause-leaves
returns-in-None-clause-leaves g c =
    leaves_on c.args.seat.now.view.core.owned (seen_by g.P.Part.seen c.args.seat.now)
    (seen_by g.P.Part.seen c.look_ahead.new.seat) (seen_by g.P.Part.seen c.help.new.seat)
    c.look_ahead.ensures.leaves c.help.ensures.leaves

pub returns-in-None-clause-why : goal.returns-in-None-clause-why
returns-in-None-clause-why g c =
    let d = as_part g.P.Part.part c.args.domain.now in
    let fits = g.P.Kind.PayloadKind.fits in
    let before = seen_by g.P.Part.seen c.args.seat.now in
    let looked = seen_by g.P.Part.seen c.look_ahead.new.seat in
    let after = seen_by g.P.Part.seen c.help.new.seat in
    let passed = λ (was : ℕ) (now : ℕ).
    LosesPassed fits d c.args.first c.args.next.now.slot was now before after in
    let adds = c.look_ahead.ensures.adds in
    then_err (λ error. IsWhyUnlinked (λ was now. ⊥) 0 error looked)
    (λ error. IsWhyUnlinked passed 0 error before) c.help.result
    (λ error why. why_later (λ was now. ⊥) passed 0 0 0 refl error before looked (omega arith)
    (ap (λ (v : CoreView). v.quota.adds) c.look_ahead.ensures.leaves.same)
    (λ was now none. absurd none) why)
    c.help.ensures.why

-- something was
pub returns-in-Some-clause-why : goal.returns-in-Some-clause-why
returns-in-Some-clause-why g c =
    let d = as_part g.P.Part.part c.args.domain.now in
    let fits = g.P.Kind.PayloadKind.fits in
    let before = seen_by g.P.Part.seen c.args.seat.now in
    let looked = seen_by g.P.Part.seen c.look_ahead.new.seat in (
      c.held_as.ensures,
      record {
        mid = looked;
        more = c.in-Some._more;
        ahead = subst (λ (x : SlotId × Option SlotId). LooksAhead fits d x.0 x.1 before looked)
            (λ i. (c.slot.ensures i, c.in-Some.is i)) c.look_ahead.ensures.looks;
        looks = c.see_passed.ensures.looks;
        other = c.see_passed.ensures.other;
      },
    )

pub returns-in-Some-clause-leaves : goal.returns-in-Some-clause-leaves
returns-in-Some-clause-leaves g c =
    leaves_on c.args.seat.now.view.core.owned (seen_by g.P.Part.seen c.args.seat.now)
    (seen_by g.P.Part.seen c.look_ahead.new.seat) (seen_by g.P.Part.seen c.see_passed.new.seat)
    c.look_ahead.ensures.leaves c.see_passed.ensures.leaves
