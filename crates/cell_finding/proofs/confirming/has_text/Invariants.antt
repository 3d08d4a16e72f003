use Rattle.cell_finding.proofs.Matching.{ComparedSoFar}
use Rattle.cell_finding.proofs.confirming.has_text.Given as goal

abbrev pub invariant-loop-part : goal.invariant-loop-part
invariant-loop-part l =
    ComparedSoFar l.domain l.sought.text.now l.part l.head l.last l.fn.seat l.seat
