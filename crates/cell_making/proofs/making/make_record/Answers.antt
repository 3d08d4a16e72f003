use Rattle.std.proofs.Common.{[], ◌∷◌, ◌+◌, ap, arith, drop, length, ◌∙◌, subst, sym, refl}
use Rattle.std.specs.Int.{div_ceil}
use Rattle.cell_calls.specs.cell_law.directory_law.Bytes.{IsPiece}
use Rattle.cell_calls.proofs.Keeping.{keeps_wider}
use Rattle.record_texts.specs.Texts.{parts_after, parts_of, text_of}
use Rattle.record_texts.proofs.Packed.{begins_so, bytes_small, head_piece, is_text_of, short_is}
use Rattle.cell_making.specs.Making.{owned_with}
use Rattle.cell_making.proofs.Before.{alone_if, has_text, more_if}
use Rattle.cell_making.proofs.Events.{few_less, few_more, few_one}
use Rattle.cell_making.proofs.Fewer.{fewer_after, fewer_again, fewer_if}
use Rattle.cell_making.proofs.Owned.{taken_over}
use Rattle.cell_making.proofs.making.make_record.Goals as goal

pub make_slot-requires-clause-piece : goal.make_slot-requires-clause-piece
make_slot-requires-clause-piece c =
    subst IsPiece (sym c.head_of-head.ensures)
    (head_piece c.args.text.now (λ i. omega (arith, c.type_inv.text i)) c.requires.text.0
    c.requires.text.1)

pub returns-then-text-le120-clause-made : goal.returns-then-text-le120-clause-made
returns-then-text-le120-clause-made c =
    alone_if c.head_of-head.result (text_of c.args.text.now) (div_ceil (length c.args.text.now) 120)
    (ap (λ words. words ∷ []) c.head_of-head.ensures
    ∙ sym (short_is c.args.text.now (omega (arith, c.if-text-le120.true))))
    (omega (arith, c.requires.text.0, c.if-text-le120.true)) c.args.seat.now
    c.make_slot.new.seat c.make_slot.result c.make_slot.ensures.made

pub returns-then-text-le120-clause-word : goal.returns-then-text-le120-clause-word
returns-then-text-le120-clause-word c = (
  c.args.text.now,
  bytes_small c.args.text.now (λ i. omega (arith, c.type_inv.text i)),
  is_text_of c.args.text.now c.requires.text.0 c.requires.text.1,
)

pub returns-in_err-rest-clause-word : goal.returns-in_err-rest-clause-word
returns-in_err-rest-clause-word c = (
  c.args.text.now,
  bytes_small c.args.text.now (λ i. omega (arith, c.type_inv.text i)),
  is_text_of c.args.text.now c.requires.text.0 c.requires.text.1,
)

pub make_before-requires-clause-piece : goal.make_before-requires-clause-piece
make_before-requires-clause-piece c =
    subst IsPiece (sym c.head_of-head.ensures)
    (head_piece c.args.text.now (λ i. omega (arith, c.type_inv.text i)) c.requires.text.0
    c.requires.text.1)

pub make_before-requires-clause-noted : goal.make_before-requires-clause-noted
make_before-requires-clause-noted c =
    has_text (parts_of (parts_after (length c.args.text.now)) (drop 120 c.args.text.now))
    (parts_after (length c.args.text.now)) c.in_ok-rest.rest.slot c.args.seat.now
    c.make_parts.new.seat c.in_ok-rest.ensures.made

pub returns-clause-made : goal.returns-clause-made
returns-clause-made c =
    more_if (parts_of (parts_after (length c.args.text.now)) (drop 120 c.args.text.now))
    (parts_after (length c.args.text.now)) c.in_ok-rest.rest.slot c.args.seat.now
    c.make_parts.new.seat c.in_ok-rest.ensures.made c.head_of-head.result
    (text_of c.args.text.now) (div_ceil (length c.args.text.now) 120)
    (sym (begins_so c.args.text.now c.head_of-head.result c.head_of-head.ensures))
    (omega (arith, c.if-text-le120.false)) c.make_before.new.seat c.make_before.result
    c.make_before.ensures.made

pub returns-clause-word : goal.returns-clause-word
returns-clause-word c = (
  c.args.text.now,
  bytes_small c.args.text.now (λ i. omega (arith, c.type_inv.text i)),
  is_text_of c.args.text.now c.requires.text.0 c.requires.text.1,
)

pub returns-clause-keeps : goal.returns-clause-keeps
returns-clause-keeps c =
    let n = parts_after (length c.args.text.now) in
    let k = div_ceil (length c.args.text.now) 120 in
    keeps_wider (n + 1) k (n + 1) k
    (owned_with c.make_before.result c.args.seat.now.view.core.owned)
    (owned_with c.make_before.result c.args.seat.now.view.core.owned)
    c.args.seat.now c.make_before.new.seat
    (taken_over n 1 c.in_ok-rest.rest.slot c.make_before.result c.args.seat.now
    c.make_parts.new.seat c.make_before.new.seat c.in_ok-rest.ensures.keeps
    c.make_before.ensures.keeps)
    (omega (arith, c.if-text-le120.false)) (omega (arith, c.if-text-le120.false)) (λ x. refl)

pub returns-then-text-le120-clause-events : goal.returns-then-text-le120-clause-events
returns-then-text-le120-clause-events c =
    few_one (div_ceil (length c.args.text.now) 120) (c.args.domain.now.shape.slots + 19)
    (length c.args.seat.now.view.core.trail) (length c.make_slot.new.seat.view.core.trail)
    (omega (arith, c.requires.text.0, c.if-text-le120.true))
    (omega (arith, c.make_slot.ensures.events))

pub returns-in_err-rest-clause-events : goal.returns-in_err-rest-clause-events
returns-in_err-rest-clause-events c =
    few_less (parts_after (length c.args.text.now)) (div_ceil (length c.args.text.now) 120)
    (c.args.domain.now.shape.slots + 19) (length c.args.seat.now.view.core.trail)
    (length c.make_parts.new.seat.view.core.trail) (omega (arith, c.if-text-le120.false))
    c.make_parts.ensures.events

pub returns-clause-events : goal.returns-clause-events
returns-clause-events c =
    few_more (parts_after (length c.args.text.now)) (div_ceil (length c.args.text.now) 120)
    (c.args.domain.now.shape.slots + 19) (length c.args.seat.now.view.core.trail)
    (length c.make_parts.new.seat.view.core.trail)
    (length c.make_before.new.seat.view.core.trail) (omega (arith, c.if-text-le120.false))
    c.make_parts.ensures.events c.make_before.ensures.events

pub returns-then-text-le120-clause-fewer : goal.returns-then-text-le120-clause-fewer
returns-then-text-le120-clause-fewer c =
    fewer_if c.make_slot.result 0 1 (div_ceil (length c.args.text.now) 120) c.args.seat.now
    c.args.seat.now c.make_slot.new.seat (omega arith)
    (omega (arith, c.requires.text.0, c.if-text-le120.true)) c.make_slot.ensures.fewer

pub returns-in_err-rest-clause-fewer : goal.returns-in_err-rest-clause-fewer
returns-in_err-rest-clause-fewer c =
    fewer_again c.from_residual.result _ (div_ceil (length c.args.text.now) 120)
    c.args.seat.now c.make_parts.new.seat c.from_residual.ensures.1
    (fewer_after _ 0 (parts_after (length c.args.text.now)) (div_ceil (length c.args.text.now) 120)
    c.args.seat.now c.args.seat.now c.make_parts.new.seat (omega arith)
    (omega (arith, c.if-text-le120.false)) c.in_err-rest.ensures.fewer)

pub returns-clause-fewer : goal.returns-clause-fewer
returns-clause-fewer c =
    fewer_if c.make_before.result (parts_after (length c.args.text.now)) 1
    (div_ceil (length c.args.text.now) 120) c.args.seat.now c.make_parts.new.seat
    c.make_before.new.seat c.in_ok-rest.ensures.keeps.makes_used.1
    (omega (arith, c.if-text-le120.false)) c.make_before.ensures.fewer
