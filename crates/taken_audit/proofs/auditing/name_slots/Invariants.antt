use Rattle.plain_audit.specs.plain_state.declared.slot.SlotId.{SlotId}
use Rattle.plain_audit.specs.heap_audit.Heaps.{slot}
use Rattle.taken_audit.specs.Placed.{at}
use Rattle.taken_audit.proofs.InPlace.{Done}
use Rattle.taken_audit.proofs.auditing.name_slots.Given as goal

abbrev pub invariant-loop-at : goal.invariant-loop-at
invariant-loop-at l = Done (λ (s : SlotId). at l.taken s.0) (slot 0) l.fn.walk l.at l.walk
