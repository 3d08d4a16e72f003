use Rattle.std.proofs.Common.{ℕ, ◌<◌, ◌≤◌, length, slice_index_or}
use Rattle.heap_audit.specs.Heaps.{slot}
use Rattle.heap_audit.specs.Walks.{rank_of}
use Rattle.heap_audit.proofs.trails.least_place.Given as goal

abbrev pub invariant-loop-i : goal.invariant-loop-i
invariant-loop-i l = record {
  within : l.best < length l.slots;
  least : (k : ℕ) → k < l.i → rank_of l.rank (slice_index_or l.slots l.best (slot 0)) ≤ rank_of l.rank (slice_index_or l.slots k (slot 0));
}
