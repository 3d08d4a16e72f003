use Rattle.std.specs.Prelude.{◌+◌, ◌-◌, ◌*◌, min, take}
use Rattle.directory_calls.proofs.Parts.{place_of}
use Rattle.text_reading.proofs.Running.{IsUpTo}
use Rattle.text_reading.proofs.reading.read_text.Given as goal

abbrev pub invariant-loop-part : goal.invariant-loop-part
invariant-loop-part g l =
    IsUpTo g.P.Kind.PayloadKind.fits l.domain
    (place_of g.P.Part.seen g.P.Part.with_seen g.P.Part.reads g.P.Part.puts_back
    g.P.Part.puts_over) l.fn.slot l.part (l.size - 120 * (l.part + 1))
    (take (min l.size (120 * (l.part + 1))) l.out) l.last.word l.last.slot l.fn.seat l.seat
