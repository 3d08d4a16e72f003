use Rattle.std.proofs.Common.{arith, ap, refl, subst, sym, ◌∙◌}
use Rattle.std.specs.Prelude.{Some}
use Rattle.cell_calls.specs.cell_law.directory_law.Bytes.{IsPiece}
use Rattle.cell_calls.specs.cell_law.plain_state.declared.act.EventPlace.TheVariants.{Field}
use Rattle.cell_calls.specs.cell_law.plain_state.declared.act.PlainAct.TheVariants as plain
use Rattle.cell_calls.specs.cell_law.Making.{LinkReady}
use Rattle.epoch_refs.specs.epoch_core.Views.{Holds}
use Rattle.epoch_refs.specs.epoch_rule.Views.{own_of}
use Rattle.cell_making.proofs.Events.{drop_event, few_view, stored_events}
use Rattle.cell_making.proofs.Given.{both_dropped, given_back}
use Rattle.cell_making.proofs.Linked.{front_owned, link_done, link_ready}
use Rattle.cell_making.proofs.making.link.Goals as goal

pub e_store-requires-clause-place : goal.e_store-requires-clause-place
e_store-requires-clause-place c =
    let owned = front_owned c.args.front.slot c.args.rest.slot c.args.seat.now c.requires.two in (
      omega arith,
      subst (λ x. Holds c.args.seat.now.view.core x) (sym c.slot.ensures) (omega (arith, owned)),
    )

pub e_store-requires-clause-deed : goal.e_store-requires-clause-deed
e_store-requires-clause-deed c w =
    subst (λ x. LinkReady (own_of c.args.seat.now.view) c.args.seat.now.view.client
    (plain.Replace (Field x 1) (Some c.args.rest.slot))) (sym c.slot.ensures)
    (link_ready c.args.front.slot c.args.rest.slot c.args.seat.now c.requires.two)

pub returns-in-Ok-clause-links : goal.returns-in-Ok-clause-links
returns-in-Ok-clause-links c = (
  refl,
  (link_done IsPiece c.args.domain.now _ c.args.front.slot c.args.rest.slot c.slot.result
      c.args.seat.now c.e_store.new.seat c.slot.ensures c.requires.rest.1.0 c.requires.two
      c.in-Ok.ensures.stored).0,
)

pub returns-in-Ok-clause-keeps : goal.returns-in-Ok-clause-keeps
returns-in-Ok-clause-keeps c =
    (link_done IsPiece c.args.domain.now _ c.args.front.slot c.args.rest.slot c.slot.result
    c.args.seat.now c.e_store.new.seat c.slot.ensures c.requires.rest.1.0 c.requires.two
    c.in-Ok.ensures.stored).1

pub returns-in-Some-clause-keeps : goal.returns-in-Some-clause-keeps
returns-in-Some-clause-keeps c =
    both_dropped IsPiece c.args.domain.now c.args.front.slot c.args.rest.slot _
    c.args.seat.now c.e_store.new.seat c.e_drop.new.seat c.e_drop-in-Err.new.seat
    (ap (λ h. h.slot) (c.in-Some.part-is ∙ given_back c.in-Err.refused.back c.in-Some.part
    c.args.rest c.in-Some.is c.in-Err.ensures.back))
    c.in-Err.ensures.refused.1 c.requires.two.owned c.requires.two.besides
    c.e_drop.ensures.dropped.0 c.e_drop-in-Err.ensures.dropped.0
    c.e_drop.ensures.dropped.1 c.e_drop-in-Err.ensures.dropped.1

pub returns-in-Ok-clause-events : goal.returns-in-Ok-clause-events
returns-in-Ok-clause-events c =
    stored_events IsPiece c.args.domain.now _ _ c.args.seat.now c.e_store.new.seat
    (Field c.slot.result 1) c.args.rest.slot c.in-Ok.ensures.stored

pub returns-in-Some-clause-events : goal.returns-in-Some-clause-events
returns-in-Some-clause-events c =
    let none = few_view 0 c.args.seat.now c.e_store.new.seat c.in-Err.ensures.refused.1 in
    let first = drop_event IsPiece c.args.domain.now c.e_store.new.seat c.e_drop.new.seat _
    c.e_drop.ensures.dropped.0 c.e_drop.ensures.dropped.1 in
    let second = drop_event IsPiece c.args.domain.now c.e_drop.new.seat c.e_drop-in-Err.new.seat _
    c.e_drop-in-Err.ensures.dropped.0 c.e_drop-in-Err.ensures.dropped.1 in
    omega (arith, none, first, second)
