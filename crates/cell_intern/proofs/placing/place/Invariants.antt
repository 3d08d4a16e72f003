use Rattle.std.proofs.Common.{◌≡◌}
use Rattle.record_texts.specs.Texts.{text_of}
use Rattle.cell_intern.proofs.Placed.{PlacesSoFar}
use Rattle.cell_intern.proofs.placing.place.Given as goal

abbrev pub invariant-loop-try : goal.invariant-loop-try
invariant-loop-try g l =
    PlacesSoFar l.domain (text_of l.sought.text.now) l.fn.candidate.slot l.passed l.fn.seat l.seat
    × (l.head ≡ l.fn.candidate) × (goal.iterator-loop-try g).can_next l._try-iterator
