use Rattle.heap_audit.proofs.Offering.{AreOffered}
use Rattle.heap_audit.proofs.search.offer_all.Given as goal

abbrev pub invariant-loop-i : goal.invariant-loop-i
invariant-loop-i l = AreOffered l.heap l.rank l.i l.holders
