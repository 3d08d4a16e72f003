use Rattle.std.proofs.Common.{◌≡◌, map, take}
use Rattle.plain_audit.specs.plain_state.declared.slot.SlotId.{SlotId}
use Rattle.domain_audit.proofs.auditing.number_slots.Given as goal

abbrev pub invariant-loop-slot : goal.invariant-loop-slot
invariant-loop-slot l =
    l.ranks.items ≡ map (λ (s : SlotId). s.0) (take l.slot-index l.slots)
