use Rattle.text_reading.proofs.WordsRead.{HasWords}
use Rattle.text_reading.proofs.payloads.payload_of.Given as goal

abbrev pub invariant-loop-word : goal.invariant-loop-word
invariant-loop-word g l =
    HasWords g.P.Kind.PayloadKind.fits l.domain l.slot l.word l.words l.fn.seat l.seat
