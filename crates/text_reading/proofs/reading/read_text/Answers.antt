use Rattle.std.proofs.Common.{◌≡◌, ℕ, ◌+◌, ◌-◌, ◌*◌, List, ap, arith, refl, subst, sym}
use Rattle.std.specs.Prelude.{Option, min, slice_index, take}
use Rattle.directory_calls.proofs.Parts.{place_of}
use Rattle.text_reading.specs.Reading.{AreBytesOf}
use Rattle.text_reading.proofs.Copied.{head_put, part_put}
use Rattle.text_reading.proofs.Running.{IsUpTo, head_read, holds_part, more, part_read}
use Rattle.text_reading.proofs.WholeTexts.{text_adds, text_leaves, text_makes, text_read}
use Rattle.text_reading.proofs.reading.read_text.Goals as goal

pub loop-part-init : goal.loop-part-init
loop-part-init g c =
    head_read g.P.Kind.PayloadKind.fits c.args.domain.now
    (place_of g.P.Part.seen g.P.Part.with_seen g.P.Part.reads g.P.Part.puts_back
    g.P.Part.puts_over)
    c.args.slot c.args.seat.now c.requires.held c.payload_of-head.ensures.four
    c.requires.begun c.requires.head c.payload_of-head.new.seat c.payload_of-head.ensures.core
    c.payload_of-head.ensures.client c.payload_of-head.ensures.objects
    c.payload_of-head.ensures.rest _ (slice_index c.payload_of-head.result 0) _
    (ap (λ (p : List ℕ). slice_index p 0) c.payload_of-head.ensures.payload) refl
    (head_put (slice_index c.payload_of-head.result 0) c.min.result c.put_payload.new.out
    c.args.out.now c.payload_of-head.result _ c.min.ensures c.payload_of-head.ensures.payload
    c.put_payload.ensures)
    (subst g.P.Kind.PayloadKind.fits c.payload_of-head.ensures.payload
    c.payload_of-head.ensures.fits)

pub go_on-last-requires-clause-more : goal.go_on-last-requires-clause-more
go_on-last-requires-clause-more g c =
    more g.P.Kind.PayloadKind.fits c.args.domain.now
    (place_of g.P.Part.seen g.P.Part.with_seen g.P.Part.reads g.P.Part.puts_back
    g.P.Part.puts_over)
    c.args.slot c.args.seat.now c.requires.held c.payload_of-head.ensures.four c.requires.free
    c.loop-part.part (slice_index c.payload_of-head.result 0 - 120 * (c.loop-part.part + 1))
    (take (min (slice_index c.payload_of-head.result 0) (120 * (c.loop-part.part + 1)))
    c.loop-part.out) c.loop-part.last.word c.loop-part.last.slot c.loop-part.seat
    c.loop-part.invariant
    (omega (arith, c.loop-part-test.true))

pub payload_of-words-requires-clause-held : goal.payload_of-words-requires-clause-held
payload_of-words-requires-clause-held g c =
    holds_part g.P.Kind.PayloadKind.fits c.args.domain.now
    (place_of g.P.Part.seen g.P.Part.with_seen g.P.Part.reads g.P.Part.puts_back
    g.P.Part.puts_over)
    c.args.slot c.args.seat.now c.requires.held c.payload_of-head.ensures.four c.requires.free
    c.loop-part.part (slice_index c.payload_of-head.result 0 - 120 * (c.loop-part.part + 1))
    (take (min (slice_index c.payload_of-head.result 0) (120 * (c.loop-part.part + 1)))
    c.loop-part.out) c.loop-part.last.word c.loop-part.last.slot c.loop-part.seat
    c.loop-part.invariant
    c.go_on-last.ensures.word.0 c.go_on-last.result.slot c.go_on-last.new.seat
    c.go_on-last.ensures.word.2 c.go_on-last.ensures.word.3 c.go_on-last.ensures.objects
    c.go_on-last.ensures.reads c.go_on-last.ensures.learns

pub loop-part-preserved : goal.loop-part-preserved
loop-part-preserved g c =
    subst (λ (w : Option ℕ). IsUpTo g.P.Kind.PayloadKind.fits c.args.domain.now
    (place_of g.P.Part.seen g.P.Part.with_seen g.P.Part.reads g.P.Part.puts_back
    g.P.Part.puts_over) c.args.slot (c.loop-part.part + 1)
    (slice_index c.payload_of-head.result 0 - 120 * (c.loop-part.part + 1 + 1))
    (take (min (slice_index c.payload_of-head.result 0) (120 * (c.loop-part.part + 1 + 1)))
    c.put_payload-in-loop-part.new.out) w c.go_on-last.result.slot c.args.seat.now
    c.payload_of-words.new.seat) (sym c.go_on-last.ensures.word.1)
    (part_read g.P.Kind.PayloadKind.fits c.args.domain.now
    (place_of g.P.Part.seen g.P.Part.with_seen g.P.Part.reads g.P.Part.puts_back
    g.P.Part.puts_over)
    c.args.slot c.args.seat.now c.requires.held c.payload_of-head.ensures.four c.requires.free
    c.loop-part.part (slice_index c.payload_of-head.result 0 - 120 * (c.loop-part.part + 1))
    (take (min (slice_index c.payload_of-head.result 0) (120 * (c.loop-part.part + 1)))
    c.loop-part.out) c.loop-part.last.word c.loop-part.last.slot c.loop-part.seat
    c.loop-part.invariant
    c.go_on-last.ensures.word.0 c.go_on-last.result.slot c.go_on-last.new.seat
    c.go_on-last.ensures.word.2 c.go_on-last.ensures.word.3 c.go_on-last.ensures.objects
    c.go_on-last.ensures.reads c.go_on-last.ensures.learns
    c.payload_of-words.new.seat c.payload_of-words.ensures.core c.payload_of-words.ensures.client
    c.payload_of-words.ensures.objects c.payload_of-words.ensures.rest c.payload_of-words.result
    _ _ c.payload_of-words.ensures.payload c.payload_of-words.ensures.fits (omega arith)
    (part_put (slice_index c.payload_of-head.result 0) (120 * (c.loop-part.part + 1))
    c.min-in-loop-part.result (120 * (c.loop-part.part + 1 + 1)) c.loop-part.out
    c.put_payload-in-loop-part.new.out c.payload_of-words.result
    (omega (arith, c.loop-part-test.true)) c.min-in-loop-part.ensures (omega arith)
    c.put_payload-in-loop-part.ensures))

pub returns-clause-reads : goal.returns-clause-reads
returns-clause-reads g c =
    let past = c.loop-part-test.false in
    let end = c.loop-part.auto.part-end in
    let all : min (slice_index c.payload_of-head.result 0) (120 * (c.loop-part.part + 1))
    ≡ slice_index c.payload_of-head.result 0 = grind arith in
    let read = text_read g.P.Kind.PayloadKind.fits c.args.domain.now
    (place_of g.P.Part.seen g.P.Part.with_seen g.P.Part.reads g.P.Part.puts_back
    g.P.Part.puts_over)
    c.args.slot c.args.seat.now c.requires.held
    c.loop-part.part (slice_index c.payload_of-head.result 0 - 120 * (c.loop-part.part + 1))
    (take (min (slice_index c.payload_of-head.result 0) (120 * (c.loop-part.part + 1)))
    c.loop-part.out) c.loop-part.last.word c.loop-part.last.slot c.loop-part.seat
    c.loop-part.invariant
    c.let_go.new.seat c.let_go.ensures.core c.let_go.ensures.client c.let_go.ensures.objects
    (omega (arith, past, end)) in (
      read.0,
      subst (λ (n : ℕ). AreBytesOf g.P.Kind.PayloadKind.fits (take n c.loop-part.out) read.0) all
          read.1,
      read.2,
    )

pub returns-clause-leaves : goal.returns-clause-leaves
returns-clause-leaves g c =
    text_leaves g.P.Kind.PayloadKind.fits c.args.domain.now
    (place_of g.P.Part.seen g.P.Part.with_seen g.P.Part.reads g.P.Part.puts_back
    g.P.Part.puts_over)
    c.args.slot c.args.seat.now c.requires.held
    c.loop-part.part (slice_index c.payload_of-head.result 0 - 120 * (c.loop-part.part + 1))
    (take (min (slice_index c.payload_of-head.result 0) (120 * (c.loop-part.part + 1)))
    c.loop-part.out) c.loop-part.last.word c.loop-part.last.slot c.loop-part.seat
    c.loop-part.invariant
    c.let_go.new.seat c.let_go.ensures.core c.let_go.ensures.client c.let_go.ensures.objects

pub returns-clause-makes : goal.returns-clause-makes
returns-clause-makes g c =
    text_makes g.P.Kind.PayloadKind.fits c.args.domain.now
    (place_of g.P.Part.seen g.P.Part.with_seen g.P.Part.reads g.P.Part.puts_back
    g.P.Part.puts_over)
    c.args.slot c.args.seat.now c.requires.held
    c.loop-part.part (slice_index c.payload_of-head.result 0 - 120 * (c.loop-part.part + 1))
    (take (min (slice_index c.payload_of-head.result 0) (120 * (c.loop-part.part + 1)))
    c.loop-part.out) c.loop-part.last.word c.loop-part.last.slot c.loop-part.seat
    c.loop-part.invariant
    c.let_go.new.seat c.let_go.ensures.core c.let_go.ensures.client c.let_go.ensures.objects

pub returns-clause-adds : goal.returns-clause-adds
returns-clause-adds g c =
    text_adds g.P.Kind.PayloadKind.fits c.args.domain.now
    (place_of g.P.Part.seen g.P.Part.with_seen g.P.Part.reads g.P.Part.puts_back
    g.P.Part.puts_over)
    c.args.slot c.args.seat.now c.requires.held
    c.loop-part.part (slice_index c.payload_of-head.result 0 - 120 * (c.loop-part.part + 1))
    (take (min (slice_index c.payload_of-head.result 0) (120 * (c.loop-part.part + 1)))
    c.loop-part.out) c.loop-part.last.word c.loop-part.last.slot c.loop-part.seat
    c.loop-part.invariant
    c.let_go.new.seat c.let_go.ensures.core c.let_go.ensures.client c.let_go.ensures.objects
