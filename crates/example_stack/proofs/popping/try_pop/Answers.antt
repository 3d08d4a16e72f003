use Rattle.std.proofs.Common.{◌<◌, refl, sym, ap, subst, ◌∙◌, arith}
use Rattle.std.specs.Prelude.{Some}
use Rattle.cdrc.specs.plain_state.declared.act.EventPlace.TheVariants.{Cell}
use Rattle.cdrc.specs.plain_state.declared.slot.SlotId.{SlotId}
use Rattle.cdrc.specs.plain_state.declared.slot.Kind.TheVariants.{Strong}
use Rattle.cdrc.specs.plain_state.Lists.{times}
use Rattle.cdrc.specs.plain_protocol.Owns.{Object}
use Rattle.cdrc.specs.core_events.Steps.{CanGive, without_given}
use Rattle.cdrc.specs.atomic_shared.Places.{named}
use Rattle.cdrc.specs.domain_rule.Views.{object_in}
use Rattle.cdrc.specs.core_events.Words.{slot_in}
use Rattle.cdrc.proofs.Below.core_law_ShownPlaces.{slot_word}
use Rattle.cdrc.specs.protected_loads.References.{Loads}
use Rattle.example_stack.specs.Deeds.{SeeTells, see_next}
use Rattle.example_stack.specs.Leaving.{Leaves, with_found}
use Rattle.example_stack.proofs.Framing.{lost_below, pop_leaves, pop_takes, there_and_back}
use Rattle.example_stack.proofs.Leavings.{drop_leaves}
use Rattle.example_stack.proofs.Trails.{trail_then}
use Rattle.example_stack.proofs.Takes.{can_give, handle_node, has_still, known_since, lost_after, node_again, owns_still, pops, why_within}
use Rattle.example_stack.proofs.popping.try_pop.Goals as goal

pub see-requires-2-clause-place : goal.see-requires-2-clause-place
see-requires-2-clause-place g c =
    let top = handle_node c.in_ok-top.field-0 c.in-Some.top c.slot.result c.args.seat.now
    c.see.new.seat c.in-Some.is c.slot.ensures c.in_ok-top.ensures.saw in
    (omega arith, omega (arith, top.0))

pub see-requires-2-clause-stack : goal.see-requires-2-clause-stack
see-requires-2-clause-stack g c = (
  refl,
  handle_node c.in_ok-top.field-0 c.in-Some.top c.slot.result c.args.seat.now
      c.see.new.seat c.in-Some.is c.slot.ensures c.in_ok-top.ensures.saw,
)

pub drop_strong-requires-clause-owned : goal.drop_strong-requires-clause-owned
drop_strong-requires-clause-owned g c =
    let top = handle_node c.in_ok-top.field-0 c.in-Some.top c.in-Some.top.slot c.args.seat.now
    c.see.new.seat c.in-Some.is refl c.in_ok-top.ensures.saw in
    subst (λ l. 0 < times c.in-Some.top.slot l) (sym c.in-Err.ensures.owned) top.0

pub take_top-requires-clause-top : goal.take_top-requires-clause-top
take_top-requires-clause-top g c =
    has_still c.slot-2.result (named c.in-Ok.below) c.see.new.seat c.see-2.new.seat
    (handle_node c.in_ok-top.field-0 c.in-Some.top c.slot-2.result c.args.seat.now
    c.see.new.seat c.in-Some.is c.slot-2.ensures c.in_ok-top.ensures.saw)
    c.in-Ok.ensures.saw c.see-2.ensures.objects

pub take_top-requires-clause-owned : goal.take_top-requires-clause-owned
take_top-requires-clause-owned g c =
    can_give c.slot-2.result (named c.in-Ok.below) c.see.new.seat c.see-2.new.seat
    (handle_node c.in_ok-top.field-0 c.in-Some.top c.slot-2.result c.args.seat.now
    c.see.new.seat c.in-Some.is c.slot-2.ensures c.in_ok-top.ensures.saw)
    c.in-Ok.ensures.saw c.see-2.ensures.objects c.see-2.new.seat refl

pub give_up-requires-clause-owned : goal.give_up-requires-clause-owned
give_up-requires-clause-owned g c =
    subst (λ o. CanGive Strong (named o) c.take_top.new.seat.view.core)
    (sym c.in-Err-take_top.ensures.back)
    (can_give c.slot-2.result (named c.in-Ok.below) c.see.new.seat c.see-2.new.seat
    (handle_node c.in_ok-top.field-0 c.in-Some.top c.slot-2.result c.args.seat.now
    c.see.new.seat c.in-Some.is c.slot-2.ensures c.in_ok-top.ensures.saw)
    c.in-Ok.ensures.saw c.see-2.ensures.objects c.take_top.new.seat
    c.in-Err-take_top.ensures.owned)

pub drop_strong-requires-in-Err-take_top-clause-owned :
    goal.drop_strong-requires-in-Err-take_top-clause-owned
drop_strong-requires-in-Err-take_top-clause-owned g c =
    subst (λ l. 0 < times c.in-Some.top.slot l) (sym c.give_up.ensures.owned)
    (subst (λ o. 0 < times c.in-Some.top.slot
    (without_given Strong (named o) c.take_top.new.seat.view.core).owned)
    (sym c.in-Err-take_top.ensures.back)
    (owns_still c.in-Some.top.slot (named c.in-Ok.below) c.see.new.seat c.see-2.new.seat
    (handle_node c.in_ok-top.field-0 c.in-Some.top c.in-Some.top.slot c.args.seat.now
    c.see.new.seat c.in-Some.is refl c.in_ok-top.ensures.saw)
    c.in-Ok.ensures.saw c.see-2.ensures.objects c.take_top.new.seat
    c.in-Err-take_top.ensures.owned))

pub returns-in-Ok-take_top-clause-popped : goal.returns-in-Ok-take_top-clause-popped
returns-in-Ok-take_top-clause-popped g c =
    let top = handle_node c.in_ok-top.field-0 c.in-Some.top c.in-Some.top.slot c.args.seat.now
    c.see.new.seat c.in-Some.is refl c.in_ok-top.ensures.saw in
    let known = known_since c.in-Some.top.slot (named c.in-Ok.below) c.see.new.seat
    c.see-2.new.seat top c.in-Ok.ensures.saw c.see-2.ensures.objects c.take_top.new.seat
    c.in-Ok-take_top.ensures.given c.take_top.ensures.objects in (
      node_again c.in-Some.top.slot (named c.in-Ok.below) c.see.new.seat c.see-2.new.seat top
          c.in-Ok.ensures.saw c.see-2.ensures.objects c.take_top.new.seat
          c.in-Ok-take_top.ensures.given c.take_top.ensures.objects,
      pops (object_in c.take_top.new.seat.view c.in-Some.top.slot).payload
          (object_in c.see-2.new.seat.view c.slot-2.result).payload c.args.seat.now.view.client
          c.see-2.new.seat.view.client c.take_top.new.seat.view.client
          c.in-Ok-take_top.ensures.popped
          (ap (λ (s : SlotId). (object_in c.see-2.new.seat.view s).payload) c.slot-2.ensures
          ∙ ap (λ (o : Object). o.payload) (sym known))
          (c.see-2.ensures.popped ∙ c.see.ensures.popped),
    )

pub returns-in-Err-clause-leaves : goal.returns-in-Err-clause-leaves
returns-in-Err-clause-leaves g c =
    let top = subst (λ o. Leaves (with_found (named o) c.args.seat.now.view.core.owned)
    c.args.seat.now c.see.new.seat) c.in-Some.is c.in_ok-top.ensures.gains in
    pop_leaves c.in-Some.top.slot c.args.seat.now c.see.new.seat top c.see-2.new.seat
    c.drop_strong.new.seat c.in-Err.ensures.leaves
    (drop_leaves c.in-Some.top.slot c.see-2.new.seat c.drop_strong.new.seat
    c.drop_strong.ensures.dropped c.drop_strong.ensures.objects)

pub returns-in-Err-clause-why : goal.returns-in-Err-clause-why
returns-in-Err-clause-why g c =
    let drops = drop_leaves c.in-Some.top.slot c.see-2.new.seat c.drop_strong.new.seat
    c.drop_strong.ensures.dropped c.drop_strong.ensures.objects in
    why_within g.K.PayloadKind.fits c.args.domain.now c.in_ok-top.ensures.saw.spent c.in-Err.error
    c.args.seat.now c.see.new.seat c.see-2.new.seat c.drop_strong.new.seat
    c.in_ok-top.ensures.gains.trail drops.trail c.in-Err.ensures.why

pub returns-in-Ok-take_top-clause-leaves : goal.returns-in-Ok-take_top-clause-leaves
returns-in-Ok-take_top-clause-leaves g c =
    let top = subst (λ o. Leaves (with_found (named o) c.args.seat.now.view.core.owned)
    c.args.seat.now c.see.new.seat) c.in-Some.is c.in_ok-top.ensures.gains in
    pop_takes c.in-Some.top.slot c.args.seat.now c.see.new.seat top c.take_top.new.seat
    (there_and_back (named c.in-Ok.below) c.see.new.seat c.see-2.new.seat c.take_top.new.seat
    c.in-Ok.ensures.saw.owned c.in-Ok.ensures.gains c.in-Ok-take_top.ensures.gives)

pub returns-in-Err-take_top-clause-leaves : goal.returns-in-Err-take_top-clause-leaves
returns-in-Err-take_top-clause-leaves g c =
    let top = subst (λ o. Leaves (with_found (named o) c.args.seat.now.view.core.owned)
    c.args.seat.now c.see.new.seat) c.in-Some.is c.in_ok-top.ensures.gains in
    let gives = subst (λ o. Leaves (without_given Strong (named o) c.take_top.new.seat.view.core).owned
    c.take_top.new.seat c.give_up.new.seat) c.in-Err-take_top.ensures.back
    c.give_up.ensures.leaves in
    pop_leaves c.in-Some.top.slot c.args.seat.now c.see.new.seat top c.give_up.new.seat
    c.drop_strong-in-Err-take_top.new.seat
    (lost_below c.in-Some.top.slot c.args.seat.now c.see.new.seat top (named c.in-Ok.below)
    c.see-2.new.seat c.take_top.new.seat c.give_up.new.seat c.in-Ok.ensures.saw.owned
    c.in-Ok.ensures.gains c.in-Err-take_top.ensures.leaves c.in-Err-take_top.ensures.owned gives)
    (drop_leaves c.in-Some.top.slot c.give_up.new.seat c.drop_strong-in-Err-take_top.new.seat
    c.drop_strong-in-Err-take_top.ensures.dropped c.drop_strong-in-Err-take_top.ensures.objects)

pub returns-in-Err-take_top-clause-why : goal.returns-in-Err-take_top-clause-why
returns-in-Err-take_top-clause-why g c =
    let drops = drop_leaves c.in-Some.top.slot c.give_up.new.seat
    c.drop_strong-in-Err-take_top.new.seat c.drop_strong-in-Err-take_top.ensures.dropped
    c.drop_strong-in-Err-take_top.ensures.objects in
    lost_after g.K.PayloadKind.fits c.args.domain.now (Cell c.args.cell)
    (Some c.in-Some.top.slot) (Some c.slot-2.result) c.held_as.result c.in-Err-take_top.lost.now
    c.args.seat.now c.see.new.seat c.see-2.new.seat c.take_top.new.seat
    c.drop_strong-in-Err-take_top.new.seat
    (ap slot_in c.held_as.ensures ∙ slot_word (Some c.slot-in-Err-take_top.result)
    ∙ ap (λ (s : SlotId). Some s) c.slot-in-Err-take_top.ensures)
    (ap (λ (s : SlotId). Some s) c.slot-2.ensures)
    (subst (λ o. Loads g.K.PayloadKind.fits c.args.domain.now (Cell c.args.cell) see_next
    (SeeTells g.K.PayloadKind.fits) (named o) c.args.seat.now c.see.new.seat) c.in-Some.is
    c.in_ok-top.ensures.loads)
    c.in-Ok.ensures.gains.trail
    (trail_then c.take_top.new.seat c.give_up.new.seat c.drop_strong-in-Err-take_top.new.seat
    c.give_up.ensures.leaves.trail drops.trail)
    c.in-Err-take_top.ensures.why
