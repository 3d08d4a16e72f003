use Rattle.std.proofs.Common.{◌≡◌, ◌+◌, ◌++◌, ◌≤◌, length, vec_capacity, vec_len}
use Rattle.cell_reports.specs.Parting.{AllRan}
use Rattle.cell_reports.proofs.parting.part_lanes.Given as goal

abbrev pub invariant-loop-ended : goal.invariant-loop-ended
invariant-loop-ended l = record {
  all : l.yielded ++ l.ended-iterator.rest.items ≡ l.fn.ends.items;
  ran : AllRan l.yielded l.done.items;
  room : vec_len l.done + length l.ended-iterator.rest.items ≤ vec_capacity l.done;
}
