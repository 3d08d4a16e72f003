use Rattle.std.proofs.Common.{arith, refl, ◌-◌, ◌*◌, ◌∙◌, length, subst, sym}
use Rattle.std.proofs.lemmas.Result.{err_from_is_err_and}
use Rattle.directory_calls.specs.Steps.{Leaves, handle_by, with_found}
use Rattle.directory_calls.proofs.Parts.{place_of}
use Rattle.directory_calls.specs.directory_law.Bytes.{IsPiece}
use Rattle.directory_calls.specs.directory_law.Payloads.{IsPart}
use Rattle.record_texts.specs.Texts.{parts_after}
use Rattle.record_texts.proofs.Packed.{part_at_is, part_piece}
use Rattle.record_making.proofs.Noted.{misses_after, on_err, same_refusal}
use Rattle.record_making.proofs.Chained.{chain_done, chain_first, chain_leaves, chain_on, chain_only, chain_text, offset}
use Rattle.record_making.proofs.making.make_parts.Goals as goal

pub make_slot-requires-clause-piece : goal.make_slot-requires-clause-piece
make_slot-requires-clause-piece g c =
    subst IsPiece (sym c.part_at.ensures)
    (part_piece c.args.text.now _ (λ i. omega (arith, c.type_inv.text i)) (omega (
      arith,
      c.requires.text.0,
    )))

pub returns-in_err-front-clause-full : goal.returns-in_err-front-clause-full
returns-in_err-front-clause-full g c told =
    c.in_err-front.ensures.full (same_refusal _ _ _ c.from_residual.ensures.1 told)

pub loop-made-init : goal.loop-made-init
loop-made-init g c =
    chain_first c.args.domain.now
    (place_of g.P.Part.seen g.P.Part.with_seen g.P.Part.reads g.P.Part.puts_back
    g.P.Part.puts_over)
    c.args.text.now c.part_at.result c.args.seat.now c.make_slot.new.seat c.in_ok-front.front.slot
    (c.part_at.ensures ∙ offset c.args.text.now _ _ (omega (arith, c.requires.text.0)))
    (subst IsPart (sym c.part_at.ensures) (part_at_is c.args.text.now _ (omega (
      arith,
      c.requires.text.0,
    ))))
    c.in_ok-front.ensures.made c.in_ok-front.ensures.noted c.in_ok-front.ensures.owned
    c.in_ok-front.ensures.makes c.make_slot.ensures.used
    c.in_ok-front.ensures.leaves c.make_slot.ensures.room c.make_slot.ensures.rest

pub make_before-requires-clause-piece : goal.make_before-requires-clause-piece
make_before-requires-clause-piece g c =
    subst IsPiece (sym c.part_at-in-loop-made.ensures)
    (part_piece c.args.text.now _ (λ i. omega (arith, c.type_inv.text i)) (omega (
      arith,
      c.requires.text.0,
      c.loop-made-test.true,
    )))

pub make_before-requires-clause-noted : goal.make_before-requires-clause-noted
make_before-requires-clause-noted g c =
    chain_text c.args.domain.now
    (place_of g.P.Part.seen g.P.Part.with_seen g.P.Part.reads g.P.Part.puts_back
    g.P.Part.puts_over)
    c.args.text.now c.part_at-in-loop-made.result c.args.seat.now c.loop-made.seat
    c.loop-made.made c.loop-made.front.slot c.loop-made.invariant

pub returns-in_err-front-2-clause-full : goal.returns-in_err-front-2-clause-full
returns-in_err-front-2-clause-full g c told =
    misses_after g.P.Kind.PayloadKind.fits c.args.domain.now c.args.seat.now c.loop-made.seat
    c.make_before.new.seat
    c.loop-made.invariant.leaves.goes
    (c.in_err-front-2.ensures.full
    (same_refusal _ _ _ c.from_residual-in_err-front-2.ensures.1 told))

pub returns-in_err-front-2-clause-client : goal.returns-in_err-front-2-clause-client
returns-in_err-front-2-clause-client g c =
    on_err c.from_residual-in_err-front-2.result
    (chain_only c.args.domain.now
    (place_of g.P.Part.seen g.P.Part.with_seen g.P.Part.reads g.P.Part.puts_back
    g.P.Part.puts_over)
    c.args.text.now c.part_at-in-loop-made.result c.args.seat.now c.loop-made.seat
    c.loop-made.made c.loop-made.front.slot c.loop-made.invariant c.make_before.new.seat
    c.in_err-front-2.ensures.leaves
    c.in_err-front-2.ensures.client)

pub returns-in_err-front-2-clause-leaves : goal.returns-in_err-front-2-clause-leaves
returns-in_err-front-2-clause-leaves g c =
    let p = err_from_is_err_and c.from_residual-in_err-front-2.result
    c.from_residual-in_err-front-2.ensures.1 in
    subst (λ r. Leaves (with_found (handle_by r) c.args.seat.now.view.core.owned)
    c.args.seat.now.view.core.weaks
    c.args.seat.now c.make_before.new.seat) (sym p.1)
    (chain_leaves c.args.domain.now
    (place_of g.P.Part.seen g.P.Part.with_seen g.P.Part.reads g.P.Part.puts_back
    g.P.Part.puts_over)
    c.args.text.now c.part_at-in-loop-made.result c.args.seat.now c.loop-made.seat
    c.loop-made.made c.loop-made.front.slot c.loop-made.invariant c.make_before.new.seat
    c.in_err-front-2.ensures.leaves)

pub loop-made-preserved : goal.loop-made-preserved
loop-made-preserved g c =
    chain_on c.args.domain.now
    (place_of g.P.Part.seen g.P.Part.with_seen g.P.Part.reads g.P.Part.puts_back
    g.P.Part.puts_over)
    c.args.text.now c.part_at-in-loop-made.result c.args.seat.now c.loop-made.seat
    c.loop-made.made c.loop-made.front.slot c.in_ok-front-2.front.slot c.make_before.new.seat
    c.loop-made.invariant
    c.in_ok-front-2.ensures.before (120 * (parts_after (length c.args.text.now) -
    c.loop-made.made)) refl
    (omega (arith, c.requires.text.0, c.loop-made-test.true))
    (c.part_at-in-loop-made.ensures
    ∙ offset c.args.text.now _ _ (omega (arith, c.requires.text.0, c.loop-made-test.true)))
    (subst IsPart (sym c.part_at-in-loop-made.ensures)
    (part_at_is c.args.text.now _ (omega (arith, c.requires.text.0, c.loop-made-test.true))))
    c.in_ok-front-2.ensures.made c.in_ok-front-2.ensures.owned
    c.in_ok-front-2.ensures.makes c.make_before.ensures.used c.in_ok-front-2.ensures.leaves
    c.make_before.ensures.room c.make_before.ensures.rest

pub returns-clause-noted : goal.returns-clause-noted
returns-clause-noted g c =
    chain_done c.args.domain.now
    (place_of g.P.Part.seen g.P.Part.with_seen g.P.Part.reads g.P.Part.puts_back
    g.P.Part.puts_over)
    c.args.text.now c.part_at.result c.args.seat.now c.loop-made.seat c.loop-made.made
    c.loop-made.front.slot
    c.loop-made.invariant
    (omega (arith, c.requires.text.0, c.loop-made-test.false, c.loop-made.auto.made-end))

pub returns-in_err-front-2-clause-makes : goal.returns-in_err-front-2-clause-makes
returns-in_err-front-2-clause-makes g c =
    omega (
      arith,
      c.loop-made.invariant.makes,
      c.in_err-front-2.ensures.makes,
      c.requires.text.0,
      c.loop-made-test.true,
    )

pub returns-in_err-front-clause-makes : goal.returns-in_err-front-clause-makes
returns-in_err-front-clause-makes g c =
    omega (arith, c.in_err-front.ensures.makes)

pub returns-clause-all : goal.returns-clause-all
returns-clause-all g c =
    omega (
      arith,
      c.loop-made.invariant.makes,
      c.requires.text.0,
      c.loop-made-test.false,
      c.loop-made.auto.made-end,
    )

pub returns-clause-makes : goal.returns-clause-makes
returns-clause-makes g c =
    omega (
      arith,
      c.loop-made.invariant.makes,
      c.requires.text.0,
      c.loop-made-test.false,
      c.loop-made.auto.made-end,
    )

pub returns-in_err-front-2-clause-used : goal.returns-in_err-front-2-clause-used
returns-in_err-front-2-clause-used g c =
    omega (arith, c.loop-made.invariant.used, c.make_before.ensures.used)

pub returns-clause-used : goal.returns-clause-used
returns-clause-used g c = c.loop-made.invariant.used
