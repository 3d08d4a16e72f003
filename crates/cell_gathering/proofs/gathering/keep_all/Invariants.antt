use Rattle.std.proofs.Common.{◌≡◌, ◌+◌, ◌++◌, ◌≤◌, length, vec_capacity, vec_len}
use Rattle.cell_gathering.proofs.gathering.keep_all.Given as goal

abbrev pub invariant-loop-handle : goal.invariant-loop-handle
invariant-loop-handle l = record {
  kept : l.kept.items ++ l.handle-iterator.rest.items ≡ l.fn.kept.items ++ l.fn.more.items;
  room : vec_len l.kept + length l.handle-iterator.rest.items ≤ vec_capacity l.kept;
  same : vec_capacity l.kept ≡ vec_capacity l.fn.kept;
}
