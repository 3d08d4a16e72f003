use Rattle.cdrc_text.proofs.Scan.{IsReading}
use Rattle.cdrc_text.proofs.cut.pieces.Given as goal

abbrev pub invariant-loop-start : goal.invariant-loop-start
invariant-loop-start l = IsReading l.fn.bytes l.limit l.places.items l.field l.start-iterator
