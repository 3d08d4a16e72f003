use Rattle.std.specs.Int.{div_ceil}
use Rattle.record_making.specs.Making.{made_by}
use Rattle.std.proofs.Common.{◌+◌, [], ◌∷◌, ap, arith, drop, length, ◌∙◌, subst, sym}
use Rattle.directory_calls.specs.Steps.{handle_by}
use Rattle.directory_calls.proofs.Parts.{place_of}
use Rattle.directory_calls.specs.directory_law.Bytes.{IsPiece}
use Rattle.record_texts.specs.Texts.{parts_after, parts_of, text_of}
use Rattle.record_texts.proofs.Packed.{begins_so, head_piece, short_is, is_text_of}
use Rattle.record_making.proofs.Noted.{all_before, alone_noted, has_text, misses_after, only_if, same_refusal}
use Rattle.record_making.proofs.Before.{taken_over}
use Rattle.record_making.proofs.Chained.{one_make, one_make_more}
use Rattle.record_making.proofs.making.make_record.Goals as goal

pub make_slot-requires-clause-piece : goal.make_slot-requires-clause-piece
make_slot-requires-clause-piece g c =
    subst IsPiece (sym c.head_of-head.ensures)
    (head_piece c.args.text.now (λ i. omega (arith, c.type_inv.text i)) c.requires.text.0
    c.requires.text.1)

pub returns-then-text-le120-clause-noted : goal.returns-then-text-le120-clause-noted
returns-then-text-le120-clause-noted g c =
    alone_noted (place_of g.P.Part.seen g.P.Part.with_seen g.P.Part.reads g.P.Part.puts_back
    g.P.Part.puts_over)
    c.make_slot.result c.head_of-head.result (text_of c.args.text.now) c.args.seat.now
    c.make_slot.new.seat
    (ap (λ words. words ∷ []) c.head_of-head.ensures
    ∙ sym (short_is c.args.text.now (omega (arith, c.if-text-le120.true))))
    c.make_slot.ensures.noted

pub returns-in_err-rest-clause-full : goal.returns-in_err-rest-clause-full
returns-in_err-rest-clause-full g c told =
    c.in_err-rest.ensures.full (same_refusal _ _ _ c.from_residual.ensures.1 told)

pub make_before-requires-clause-piece : goal.make_before-requires-clause-piece
make_before-requires-clause-piece g c =
    subst IsPiece (sym c.head_of-head.ensures)
    (head_piece c.args.text.now (λ i. omega (arith, c.type_inv.text i)) c.requires.text.0
    c.requires.text.1)

pub make_before-requires-clause-noted : goal.make_before-requires-clause-noted
make_before-requires-clause-noted g c =
    has_text (place_of g.P.Part.seen g.P.Part.with_seen g.P.Part.reads g.P.Part.puts_back
    g.P.Part.puts_over)
    c.in_ok-rest.rest.slot (parts_of (parts_after (length c.args.text.now)) (drop 120
    c.args.text.now))
    c.args.seat.now c.make_parts.new.seat c.in_ok-rest.ensures.noted

pub returns-clause-noted : goal.returns-clause-noted
returns-clause-noted g c =
    all_before (place_of g.P.Part.seen g.P.Part.with_seen g.P.Part.reads g.P.Part.puts_back
    g.P.Part.puts_over)
    c.in_ok-rest.rest.slot (parts_of (parts_after (length c.args.text.now)) (drop 120
    c.args.text.now))
    c.args.seat.now c.make_parts.new.seat c.in_ok-rest.ensures.noted c.make_before.new.seat
    c.make_before.result c.head_of-head.result
    (text_of c.args.text.now) (sym (begins_so c.args.text.now c.head_of-head.result
    c.head_of-head.ensures))
    c.make_before.ensures.before

pub returns-clause-full : goal.returns-clause-full
returns-clause-full g c told =
    misses_after g.P.Kind.PayloadKind.fits c.args.domain.now c.args.seat.now c.make_parts.new.seat
    c.make_before.new.seat c.in_ok-rest.ensures.leaves.goes (c.make_before.ensures.full told)

pub returns-clause-client : goal.returns-clause-client
returns-clause-client g c =
    only_if (place_of g.P.Part.seen g.P.Part.with_seen g.P.Part.reads g.P.Part.puts_back
    g.P.Part.puts_over)
    c.in_ok-rest.rest.slot (parts_of (parts_after (length c.args.text.now)) (drop 120
    c.args.text.now))
    c.args.seat.now c.make_parts.new.seat c.in_ok-rest.ensures.noted c.make_before.new.seat
    c.make_before.result
    c.make_before.ensures.client

pub returns-clause-leaves : goal.returns-clause-leaves
returns-clause-leaves g c =
    taken_over c.in_ok-rest.rest.slot (handle_by c.make_before.result) c.args.seat.now
    c.make_parts.new.seat c.make_before.new.seat c.in_ok-rest.ensures.leaves
    c.make_before.ensures.leaves

pub returns-then-text-le120-clause-makes : goal.returns-then-text-le120-clause-makes
returns-then-text-le120-clause-makes g c =
    (one_make c.make_slot.result c.args.seat.now.view.core.makes
    c.make_slot.new.seat.view.core.makes (div_ceil (length c.args.text.now) 120)
    (omega (arith, c.requires.text.0, c.if-text-le120.true)) c.make_slot.ensures.makes).0

pub returns-then-text-le120-clause-all : goal.returns-then-text-le120-clause-all
returns-then-text-le120-clause-all g c =
    (one_make c.make_slot.result c.args.seat.now.view.core.makes
    c.make_slot.new.seat.view.core.makes (div_ceil (length c.args.text.now) 120)
    (omega (arith, c.requires.text.0, c.if-text-le120.true)) c.make_slot.ensures.makes).1

pub returns-in_err-rest-clause-makes : goal.returns-in_err-rest-clause-makes
returns-in_err-rest-clause-makes g c =
    omega (arith, c.make_parts.ensures.makes, c.if-text-le120.false)

pub returns-clause-makes : goal.returns-clause-makes
returns-clause-makes g c =
    (one_make_more c.make_before.result c.args.seat.now.view.core.makes
    c.make_before.new.seat.view.core.makes (parts_after (length c.args.text.now))
    (div_ceil (length c.args.text.now) 120) (omega (arith, c.if-text-le120.false))
    (c.make_before.ensures.makes
    ∙ ap (λ n. n + made_by c.make_before.result) c.in_ok-rest.ensures.all)).0

pub returns-clause-all : goal.returns-clause-all
returns-clause-all g c =
    (one_make_more c.make_before.result c.args.seat.now.view.core.makes
    c.make_before.new.seat.view.core.makes (parts_after (length c.args.text.now))
    (div_ceil (length c.args.text.now) 120) (omega (arith, c.if-text-le120.false))
    (c.make_before.ensures.makes
    ∙ ap (λ n. n + made_by c.make_before.result) c.in_ok-rest.ensures.all)).1

pub returns-then-text-le120-clause-text : goal.returns-then-text-le120-clause-text
returns-then-text-le120-clause-text g c =
    is_text_of c.args.text.now c.requires.text.0 c.requires.text.1

pub returns-in_err-rest-clause-text : goal.returns-in_err-rest-clause-text
returns-in_err-rest-clause-text g c =
    is_text_of c.args.text.now c.requires.text.0 c.requires.text.1

pub returns-clause-text : goal.returns-clause-text
returns-clause-text g c =
    is_text_of c.args.text.now c.requires.text.0 c.requires.text.1

pub returns-clause-used : goal.returns-clause-used
returns-clause-used g c = omega (arith, c.make_parts.ensures.used, c.make_before.ensures.used)
