use Rattle.heap_audit.specs.Marking.{IsRooted}
use Rattle.heap_audit.proofs.reach.roots.Given as goal

abbrev pub invariant-loop-i : goal.invariant-loop-i
invariant-loop-i l = IsRooted l.heap l.marks.marked.items l.marks.slots.items l.i
