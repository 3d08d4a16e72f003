use Rattle.payload_reading.proofs.Words.{HasWords}
use Rattle.payload_reading.proofs.reading.read_all.Given as goal

abbrev pub invariant-loop-word : goal.invariant-loop-word
invariant-loop-word g l =
    HasWords g.P.Kind.PayloadKind.fits l.domain l.slot l.word l.words l.fn.seat l.seat
