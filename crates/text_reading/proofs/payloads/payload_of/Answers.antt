use Rattle.std.proofs.Common.{arith}
use Rattle.text_reading.proofs.WordsRead.{all_fit, all_four, all_read, one_read}
use Rattle.text_reading.proofs.payloads.payload_of.Goals as goal

pub loop-word-preserved : goal.loop-word-preserved
loop-word-preserved g c =
    one_read g.P.Kind.PayloadKind.fits c.args.domain.now c.args.slot c.args.seat.now
    c.requires.held c.loop-word.word c.read.result c.loop-word.words c.loop-word.seat
    c.read.new.seat c.loop-word.invariant c.loop-word-test.true c.read.ensures.read
    c.read.ensures.seen c.read.ensures.client c.read.ensures.objects c.read.ensures.rest

pub returns-clause-payload : goal.returns-clause-payload
returns-clause-payload g c =
    all_read g.P.Kind.PayloadKind.fits c.args.domain.now c.args.slot c.args.seat.now
    c.requires.held c.loop-word.word c.loop-word.words c.loop-word.seat c.loop-word.invariant
    (omega (arith, c.loop-word-test.false, c.loop-word.auto.word-end))

pub returns-clause-four : goal.returns-clause-four
returns-clause-four g c =
    all_four g.P.Kind.PayloadKind.fits c.args.domain.now c.args.slot c.args.seat.now
    c.requires.held c.loop-word.word c.loop-word.words c.loop-word.seat c.loop-word.invariant
    (omega (arith, c.loop-word-test.false, c.loop-word.auto.word-end))

pub returns-clause-fits : goal.returns-clause-fits
returns-clause-fits g c =
    all_fit g.P.Kind.PayloadKind.fits c.args.domain.now c.args.slot c.args.seat.now
    c.requires.held c.loop-word.word c.loop-word.words c.loop-word.seat c.loop-word.invariant
    (omega (arith, c.loop-word-test.false, c.loop-word.auto.word-end))
    (returns-clause-payload g c)
