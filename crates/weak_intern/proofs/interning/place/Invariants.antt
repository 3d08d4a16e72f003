use Rattle.record_making.specs.directory_calls.Directories.{area_of}
use Rattle.record_making.specs.Texts.{text_of}
use Rattle.weak_intern.proofs.Placed.{Enters}
use Rattle.weak_intern.proofs.interning.place.Given as goal

abbrev pub invariant-loop : goal.invariant-loop
invariant-loop g l =
    (goal.iterator-loop g).can_next l.iterator' × (goal.iterator-loop g).is_finite l.iterator'
    × Enters l.domain g.P.Part.seen g.P.Part.with_seen
    (area_of (g.P.Part.part l.domain.protocol)) (text_of l.sought.text.now) l.candidate.slot
    l.passed
    l.fn.seat l.seat
