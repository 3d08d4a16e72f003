use Rattle.heap_audit.proofs.Adding.{IsCounted, IsWeighed}
use Rattle.heap_audit.proofs.summing.sum_up.Given as goal

abbrev pub invariant-loop-i : goal.invariant-loop-i
invariant-loop-i g l = record {
  weighed : IsWeighed g.W.PayloadKind.weight l.heap.slots.items l.i l.live l.bytes;
  counted : IsCounted l.heap l.rank l.i l.unreached l.least;
}
