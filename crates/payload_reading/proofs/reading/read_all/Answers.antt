use Rattle.std.proofs.Common.{arith}
use Rattle.payload_reading.proofs.Words.{all_fit, all_read, all_seen, one_read}
use Rattle.payload_reading.proofs.reading.read_all.Goals as goal

pub loop-word-preserved : goal.loop-word-preserved
loop-word-preserved g c =
    one_read g.P.Kind.PayloadKind.fits c.args.domain.now c.args.slot c.args.seat.now
    c.requires.holds c.loop-word.word c.loop-word.words c.loop-word.seat c.loop-word.invariant
    c.read.result c.read.new.seat c.loop-word-test.true c.read.ensures.read c.read.ensures.seen
    c.read.ensures.client c.read.ensures.objects c.read.ensures.rest

pub returns-clause-payload : goal.returns-clause-payload
returns-clause-payload g c =
    all_read g.P.Kind.PayloadKind.fits c.args.domain.now c.args.slot c.args.seat.now
    c.requires.holds c.loop-word.word c.loop-word.words c.loop-word.seat c.loop-word.invariant
    (omega (arith, c.loop-word-test.false, c.loop-word.auto.word-end))

pub returns-clause-fits : goal.returns-clause-fits
returns-clause-fits g c =
    all_fit g.P.Kind.PayloadKind.fits c.args.domain.now c.args.slot c.args.seat.now
    c.requires.holds c.loop-word.word c.loop-word.words c.loop-word.seat c.loop-word.invariant
    (omega (arith, c.loop-word-test.false, c.loop-word.auto.word-end))

pub returns-clause-seen : goal.returns-clause-seen
returns-clause-seen g c = record {
  goes = all_seen g.P.Kind.PayloadKind.fits c.args.domain.now c.args.slot c.args.seat.now
      c.requires.holds c.loop-word.word c.loop-word.words c.loop-word.seat c.loop-word.invariant
      (omega (arith, c.loop-word-test.false, c.loop-word.auto.word-end));
}
