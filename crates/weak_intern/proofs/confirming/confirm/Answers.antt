use Rattle.std.proofs.Common.{refl, subst, sym, ◌∙◌}
use Rattle.record_making.specs.directory_law.Law.{IsBound}
use Rattle.record_making.specs.directory_law.Payloads.{Text}
use Rattle.record_making.specs.directory_calls.Steps.{AtStep}
use Rattle.weak_intern.specs.Seeing.{HasSeenIn}
use Rattle.record_making.specs.directory_calls.Directories.{area_of}
use Rattle.record_making.proofs.Below.directory_calls_Parts.{place_of}
use Rattle.record_making.proofs.Below.directory_law_Bytes.{text_is}
use Rattle.record_making.specs.Texts.{text_of}
use Rattle.record_making.proofs.Dropped.{adds_still, dropped, makes_still}
use Rattle.text_reading.specs.Reading.{HasRead}
use Rattle.weak_intern.proofs.Meeting.{is_not}
use Rattle.weak_intern.proofs.Whole.{answered_leaves, answered_learns, answered_met, dropped_learns, dropped_leaves, dropped_met, saw_read}
use Rattle.weak_intern.proofs.confirming.confirm.Goals as goal

pub answer-requires-clause-saw : goal.answer-requires-clause-saw
answer-requires-clause-saw g c =
    subst (λ x. HasSeenIn g.P.Part.seen x c.has_text.new.seat) (sym c.slot-then-has_text.ensures)
    (saw_read c.args.domain.now
    (place_of g.P.Part.seen g.P.Part.with_seen g.P.Part.reads g.P.Part.puts_back
    g.P.Part.puts_over)
    (area_of (g.P.Part.part c.args.domain.now.protocol)) c.args.strong.slot c.args.seat.now
    c.has_text.new.seat c.requires.owned c.has_text.ensures.leaves c.has_text.ensures.learns
    c.requires.saw)

pub returns-then-has_text-clause-meets : goal.returns-then-has_text-clause-meets
returns-then-has_text-clause-meets g c =
    answered_met c.args.domain.now
    (place_of g.P.Part.seen g.P.Part.with_seen g.P.Part.reads g.P.Part.puts_back
    g.P.Part.puts_over)
    (area_of (g.P.Part.part c.args.domain.now.protocol)) c.args.strong.slot c.args.seat.now
    c.has_text.new.seat c.requires.owned c.has_text.ensures.leaves c.has_text.ensures.learns
    c.has_text.ensures.reads.0 (text_of c.args.sought.now.text.now)
    (subst (λ x. HasRead g.P.Part.seen x c.has_text.ensures.reads.0 c.has_text.new.seat)
    c.slot.ensures c.has_text.ensures.reads.1)
    c.answer.new.seat c.args.intern c.answer.ensures.leaves c.answer.ensures.learns
    c.args.strong refl (c.has_text.ensures.reads.2.0 c.if-has_text.true)
    (subst (λ x. (text : Text) → HasRead g.P.Part.seen x text c.has_text.new.seat
    → AtStep c.args.domain.now (λ p. IsBound (area_of (g.P.Part.part c.args.domain.now.protocol))
    p text x)
    c.has_text.new.seat c.answer.new.seat) c.slot-then-has_text.ensures c.answer.ensures.live
    c.has_text.ensures.reads.0
    (subst (λ x. HasRead g.P.Part.seen x c.has_text.ensures.reads.0 c.has_text.new.seat)
    c.slot.ensures c.has_text.ensures.reads.1))

pub returns-then-has_text-clause-leaves : goal.returns-then-has_text-clause-leaves
returns-then-has_text-clause-leaves g c =
    answered_leaves c.args.domain.now
    (place_of g.P.Part.seen g.P.Part.with_seen g.P.Part.reads g.P.Part.puts_back
    g.P.Part.puts_over)
    (area_of (g.P.Part.part c.args.domain.now.protocol)) c.args.strong.slot c.args.seat.now
    c.has_text.new.seat c.requires.owned c.has_text.ensures.leaves c.has_text.ensures.learns
    c.has_text.ensures.reads.0 (text_of c.args.sought.now.text.now)
    (subst (λ x. HasRead g.P.Part.seen x c.has_text.ensures.reads.0 c.has_text.new.seat)
    c.slot.ensures c.has_text.ensures.reads.1)
    c.answer.new.seat c.args.intern c.answer.ensures.leaves c.answer.ensures.learns

pub returns-then-has_text-clause-learns : goal.returns-then-has_text-clause-learns
returns-then-has_text-clause-learns g c =
    answered_learns c.args.domain.now
    (place_of g.P.Part.seen g.P.Part.with_seen g.P.Part.reads g.P.Part.puts_back
    g.P.Part.puts_over)
    (area_of (g.P.Part.part c.args.domain.now.protocol)) c.args.strong.slot c.args.seat.now
    c.has_text.new.seat c.requires.owned c.has_text.ensures.leaves c.has_text.ensures.learns
    c.has_text.ensures.reads.0 (text_of c.args.sought.now.text.now)
    (subst (λ x. HasRead g.P.Part.seen x c.has_text.ensures.reads.0 c.has_text.new.seat)
    c.slot.ensures c.has_text.ensures.reads.1)
    c.answer.new.seat c.args.intern c.answer.ensures.leaves c.answer.ensures.learns

pub returns-clause-meets : goal.returns-clause-meets
returns-clause-meets g c =
    dropped_met c.args.domain.now
    (place_of g.P.Part.seen g.P.Part.with_seen g.P.Part.reads g.P.Part.puts_back
    g.P.Part.puts_over)
    (area_of (g.P.Part.part c.args.domain.now.protocol)) c.args.strong.slot c.args.seat.now
    c.has_text.new.seat c.requires.owned c.has_text.ensures.leaves c.has_text.ensures.learns
    c.has_text.ensures.reads.0 (text_of c.args.sought.now.text.now)
    (subst (λ x. HasRead g.P.Part.seen x c.has_text.ensures.reads.0 c.has_text.new.seat)
    c.slot.ensures c.has_text.ensures.reads.1)
    c.drop_strong.new.seat
    (dropped c.has_text.new.seat c.drop_strong.new.seat c.args.strong.slot
    g.P.Kind.PayloadKind.fits c.args.domain.now c.drop_strong.ensures.dropped
    c.drop_strong.ensures.objects)
    c.drop_strong.ensures.client
    (text_is c.args.sought.now.text.now (text_of c.args.sought.now.text.now) c.requires.sought.text)
    (λ same. is_not c.has_text.result c.if-has_text.false (c.has_text.ensures.reads.2.1 same))

pub returns-clause-leaves : goal.returns-clause-leaves
returns-clause-leaves g c =
    dropped_leaves c.args.domain.now
    (place_of g.P.Part.seen g.P.Part.with_seen g.P.Part.reads g.P.Part.puts_back
    g.P.Part.puts_over)
    (area_of (g.P.Part.part c.args.domain.now.protocol)) c.args.strong.slot c.args.seat.now
    c.has_text.new.seat c.requires.owned c.has_text.ensures.leaves c.has_text.ensures.learns
    c.has_text.ensures.reads.0 (text_of c.args.sought.now.text.now)
    (subst (λ x. HasRead g.P.Part.seen x c.has_text.ensures.reads.0 c.has_text.new.seat)
    c.slot.ensures c.has_text.ensures.reads.1)
    c.drop_strong.new.seat
    (dropped c.has_text.new.seat c.drop_strong.new.seat c.args.strong.slot
    g.P.Kind.PayloadKind.fits c.args.domain.now c.drop_strong.ensures.dropped
    c.drop_strong.ensures.objects)
    c.drop_strong.ensures.client

pub returns-clause-learns : goal.returns-clause-learns
returns-clause-learns g c =
    dropped_learns c.args.domain.now
    (place_of g.P.Part.seen g.P.Part.with_seen g.P.Part.reads g.P.Part.puts_back
    g.P.Part.puts_over)
    (area_of (g.P.Part.part c.args.domain.now.protocol)) c.args.strong.slot c.args.seat.now
    c.has_text.new.seat c.requires.owned c.has_text.ensures.leaves c.has_text.ensures.learns
    c.has_text.ensures.reads.0 (text_of c.args.sought.now.text.now)
    (subst (λ x. HasRead g.P.Part.seen x c.has_text.ensures.reads.0 c.has_text.new.seat)
    c.slot.ensures c.has_text.ensures.reads.1)
    c.drop_strong.new.seat
    (dropped c.has_text.new.seat c.drop_strong.new.seat c.args.strong.slot
    g.P.Kind.PayloadKind.fits c.args.domain.now c.drop_strong.ensures.dropped
    c.drop_strong.ensures.objects)
    c.drop_strong.ensures.client

pub returns-clause-makes : goal.returns-clause-makes
returns-clause-makes g c =
    makes_still c.has_text.new.seat c.drop_strong.new.seat c.args.strong.slot
    g.P.Kind.PayloadKind.fits c.args.domain.now c.drop_strong.ensures.dropped
    ∙ c.has_text.ensures.makes

pub returns-clause-adds : goal.returns-clause-adds
returns-clause-adds g c =
    adds_still c.has_text.new.seat c.drop_strong.new.seat c.args.strong.slot
    g.P.Kind.PayloadKind.fits c.args.domain.now c.drop_strong.ensures.dropped
    ∙ c.has_text.ensures.adds
