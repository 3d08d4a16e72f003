use Rattle.std.proofs.Common.{◌≡◌, ◌<◌, ◌-◌, length, IsSome}
use Rattle.heap_audit.specs.Marking.{IsMarking}
use Rattle.heap_audit.specs.Tables.{holder_at}
use Rattle.heap_audit.proofs.Searching.{OnTrail}
use Rattle.heap_audit.proofs.trails.search.Given as goal

abbrev pub invariant-loop-marks : goal.invariant-loop-marks
invariant-loop-marks l = record {
  size : length l.marks.marked.items ≡ length l.holders;
  marking : IsMarking l.marks.marked.items l.marks.slots.items;
  trail : OnTrail l.holders l.fn.start l.marks.slots.items l.present;
  within : l.present.0 < length l.holders;
  held : IsSome (holder_at l.holders l.present);
}

abbrev pub decreases-loop-marks : goal.decreases-loop-marks
decreases-loop-marks l = length l.holders - length l.marks.slots.items
