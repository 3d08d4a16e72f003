use Rattle.std.proofs.Common.{◌<◌}
use Rattle.deleter.specs.plain_state.declared.slot.SlotId.{SlotId}
use Rattle.heap_audit.specs.Heaps.{ObeysAt}
use Rattle.heap_audit.proofs.obeying.lawful.Given as goal

abbrev pub invariant-loop-index : goal.invariant-loop-index
invariant-loop-index l = (s : SlotId) → s.0 < l.index → ObeysAt l.heap s
