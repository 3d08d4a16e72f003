use Rattle.std.specs.Prelude.{◌≤◌, length}
use Rattle.record_making.specs.directory_calls.Directories.{area_of}
use Rattle.record_making.specs.Texts.{text_of}
use Rattle.weak_intern.proofs.Found.{Walks}
use Rattle.weak_intern.proofs.walking.seek.Given as goal

abbrev pub invariant-loop-passed : goal.invariant-loop-passed
invariant-loop-passed g l =
    Walks l.domain g.P.Part.seen g.P.Part.with_seen (area_of (g.P.Part.part l.domain.protocol))
    (text_of l.sought.text.now) l.sought.head (length l.sought.text.now ≤ 120) l.passed l.fn.seat l.seat
