use Rattle.std.proofs.Common.{◌-◌, ◌≤◌, length}
use Rattle.heap_audit.specs.Marking.{IsSpread}
use Rattle.heap_audit.proofs.reach.reached_slots.Given as goal

abbrev pub invariant-loop-next : goal.invariant-loop-next
invariant-loop-next l = record {
  spread : IsSpread l.heap l.marks.marked.items l.marks.slots.items l.next;
  listed : l.next ≤ length l.marks.slots.items;
}

abbrev pub decreases-loop-next : goal.decreases-loop-next
decreases-loop-next l = length l.heap.slots.items - l.next
