use Rattle.std.proofs.Common.{arith, ◌+◌, refl, ◌-◌, ◌*◌, ◌∙◌, length, subst, sym}
use Rattle.cell_calls.specs.cell_law.directory_law.Bytes.{IsPiece}
use Rattle.cell_calls.specs.cell_law.directory_law.Payloads.{IsPart}
use Rattle.record_texts.specs.Texts.{parts_after}
use Rattle.record_texts.proofs.Packed.{part_at_is, part_piece}
use Rattle.cell_making.proofs.Chained.{chain_count, chain_events, chain_first, chain_keeps, chain_on, chain_refused, chain_text, offset}
use Rattle.cell_making.proofs.Events.{few_less}
use Rattle.cell_making.proofs.Fewer.{fewer_after, fewer_again}
use Rattle.cell_making.proofs.Notes.{refused_again}
use Rattle.cell_making.proofs.Owned.{none_with}
use Rattle.cell_making.proofs.making.make_parts.Goals as goal

pub make_slot-requires-clause-piece : goal.make_slot-requires-clause-piece
make_slot-requires-clause-piece c =
    subst IsPiece (sym c.part_at.ensures)
    (part_piece c.args.text.now _ (λ i. omega (arith, c.type_inv.text i)) (omega (
      arith,
      c.requires.text.0,
    )))

pub loop-made-init : goal.loop-made-init
loop-made-init c =
    chain_first c.args.domain.now c.args.text.now c.part_at.result c.args.seat.now
    c.make_slot.new.seat c.in_ok-front.front.slot
    (c.part_at.ensures ∙ offset c.args.text.now _ _ (omega (arith, c.requires.text.0)))
    (subst IsPart (sym c.part_at.ensures) (part_at_is c.args.text.now _ (omega (
      arith,
      c.requires.text.0,
    ))))
    c.in_ok-front.ensures.made c.in_ok-front.ensures.keeps c.make_slot.ensures.rest
    c.make_slot.ensures.events

pub make_before-requires-clause-piece : goal.make_before-requires-clause-piece
make_before-requires-clause-piece c =
    subst IsPiece (sym c.part_at-in-loop-made.ensures)
    (part_piece c.args.text.now _ (λ i. omega (arith, c.type_inv.text i)) (omega (
      arith,
      c.requires.text.0,
      c.loop-made-test.true,
    )))

pub make_before-requires-clause-noted : goal.make_before-requires-clause-noted
make_before-requires-clause-noted c =
    chain_text c.args.domain.now c.args.text.now c.part_at-in-loop-made.result c.args.seat.now
    c.loop-made.seat c.loop-made.made c.loop-made.front.slot c.loop-made.invariant

pub returns-in_err-front-2-clause-refused : goal.returns-in_err-front-2-clause-refused
returns-in_err-front-2-clause-refused c =
    refused_again c.args.domain.now c.from_residual-in_err-front-2.result _ c.args.seat.now
    c.make_before.new.seat c.from_residual-in_err-front-2.ensures.1
    (chain_refused c.args.domain.now c.args.text.now c.part_at-in-loop-made.result
    c.args.seat.now c.loop-made.seat c.loop-made.made c.loop-made.front.slot
    c.loop-made.invariant c.make_before.new.seat _ c.in_err-front-2.ensures.refused)

pub returns-in_err-front-2-clause-keeps : goal.returns-in_err-front-2-clause-keeps
returns-in_err-front-2-clause-keeps c =
    none_with c.from_residual-in_err-front-2.result _ _ _ c.args.seat.now.view.core.owned
    c.args.seat.now c.make_before.new.seat c.from_residual-in_err-front-2.ensures.1
    (chain_keeps c.args.domain.now c.args.text.now c.part_at-in-loop-made.result
    c.args.seat.now c.loop-made.seat c.loop-made.made c.loop-made.front.slot
    c.loop-made.invariant c.make_before.new.seat c.in_err-front-2.field-0.0
    (omega (arith, c.requires.text.0, c.loop-made-test.true)) c.in_err-front-2.ensures.keeps)

pub loop-made-preserved : goal.loop-made-preserved
loop-made-preserved c =
    chain_on c.args.domain.now c.args.text.now c.part_at-in-loop-made.result c.args.seat.now
    c.loop-made.seat c.loop-made.made c.loop-made.front.slot c.loop-made.invariant
    c.make_before.new.seat c.in_ok-front-2.front.slot
    (120 * (parts_after (length c.args.text.now) - c.loop-made.made)) refl
    (omega (arith, c.requires.text.0, c.loop-made-test.true))
    (c.part_at-in-loop-made.ensures
    ∙ offset c.args.text.now _ _ (omega (arith, c.requires.text.0, c.loop-made-test.true)))
    (subst IsPart (sym c.part_at-in-loop-made.ensures)
    (part_at_is c.args.text.now _ (omega (arith, c.requires.text.0, c.loop-made-test.true))))
    c.in_ok-front-2.ensures.made c.in_ok-front-2.ensures.keeps c.make_before.ensures.rest
    c.make_before.ensures.events

pub returns-in_err-front-2-clause-events : goal.returns-in_err-front-2-clause-events
returns-in_err-front-2-clause-events c =
    chain_events c.args.domain.now c.args.text.now c.part_at-in-loop-made.result
    c.args.seat.now c.loop-made.seat c.loop-made.made c.loop-made.front.slot
    c.loop-made.invariant c.make_before.new.seat
    (omega (arith, c.requires.text.0, c.loop-made-test.true)) c.make_before.ensures.events

pub returns-in_err-front-clause-events : goal.returns-in_err-front-clause-events
returns-in_err-front-clause-events c =
    few_less 1 (parts_after (length c.args.text.now)) (c.args.domain.now.shape.slots + 19)
    (length c.args.seat.now.view.core.trail) (length c.make_slot.new.seat.view.core.trail)
    (omega (arith, c.requires.text.0)) (omega (arith, c.make_slot.ensures.events))

pub returns-clause-events : goal.returns-clause-events
returns-clause-events c =
    chain_count c.args.domain.now c.args.text.now c.part_at.result c.args.seat.now
    c.loop-made.seat c.loop-made.made c.loop-made.front.slot c.loop-made.invariant
    (omega (arith, c.requires.text.0, c.loop-made-test.false, c.loop-made.auto.made-end))

pub returns-in_err-front-clause-fewer : goal.returns-in_err-front-clause-fewer
returns-in_err-front-clause-fewer c =
    fewer_again c.from_residual.result _ (parts_after (length c.args.text.now))
    c.args.seat.now c.make_slot.new.seat c.from_residual.ensures.1
    (fewer_after _ 0 1 (parts_after (length c.args.text.now)) c.args.seat.now c.args.seat.now
    c.make_slot.new.seat (omega arith) (omega (arith, c.requires.text.0))
    c.in_err-front.ensures.fewer)

pub returns-in_err-front-2-clause-fewer : goal.returns-in_err-front-2-clause-fewer
returns-in_err-front-2-clause-fewer c =
    fewer_again c.from_residual-in_err-front-2.result _ (parts_after (length c.args.text.now))
    c.args.seat.now c.make_before.new.seat c.from_residual-in_err-front-2.ensures.1
    (fewer_after _ c.loop-made.made 1 (parts_after (length c.args.text.now)) c.args.seat.now
    c.loop-made.seat c.make_before.new.seat c.loop-made.invariant.keeps.makes_used.1
    (omega (arith, c.requires.text.0, c.loop-made-test.true)) c.in_err-front-2.ensures.fewer)
