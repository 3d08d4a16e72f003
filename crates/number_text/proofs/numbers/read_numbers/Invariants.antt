use Rattle.number_text.proofs.Reading.{IsReading}
use Rattle.number_text.proofs.numbers.read_numbers.Given as goal

abbrev pub invariant-loop-field : goal.invariant-loop-field
invariant-loop-field l = IsReading l.fn.bytes l.fn.limit l.numbers.items l.skipped l.field-iterator
