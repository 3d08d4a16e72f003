use Rattle.std.proofs.Common.{◌≡◌, ◌<◌, length, take, slice_index, sum_by}
use Rattle.deleter.specs.plain_state.declared.slot.SlotId.{SlotId}
use Rattle.heap_audit.specs.Heaps.{fields_holding}
use Rattle.heap_audit.proofs.fields.count_all.Given as goal

abbrev pub invariant-loop-slot : goal.invariant-loop-slot
invariant-loop-slot l = record {
  counted : (s : SlotId) → s.0 < length l.slots → slice_index l.counts s.0 ≡ sum_by (fields_holding s) (take l.slot-index l.slots);
}
