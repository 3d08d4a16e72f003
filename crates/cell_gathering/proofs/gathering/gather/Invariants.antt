use Rattle.std.proofs.Common.{◌≡◌, ◌+◌, ◌++◌, ◌≤◌, length, vec_capacity, vec_len}
use Rattle.std.specs.List.{sum_by}
use Rattle.cell_gathering.specs.declared.done.Done.{Done}
use Rattle.cell_gathering.specs.Gathering.{kept_by}
use Rattle.cell_gathering.proofs.Taken.{HasTaken}
use Rattle.cell_gathering.proofs.gathering.gather.Given as goal

abbrev pub invariant-loop-one : goal.invariant-loop-one
invariant-loop-one l = record {
  taken : HasTaken l.domain l.work (length l.fn.done.items) (length l.yielded) l.yielded l.root
      l.tallies.items l.kept.items;
  all : l.yielded ++ l.one-iterator.rest.items ≡ l.fn.done.items;
  slots : vec_len l.tallies + length l.one-iterator.rest.items ≤ vec_capacity l.tallies;
  room : vec_len l.kept + sum_by (λ (one : Done). length (kept_by one)) l.one-iterator.rest.items
      ≤ vec_capacity l.kept;
}
