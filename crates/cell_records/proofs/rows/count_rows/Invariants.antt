use Rattle.std.proofs.Common.{◌≡◌, ◌≤◌, ◌+◌, ◌++◌, length}
use Rattle.std.specs.Prelude.{vec_capacity}
use Rattle.cell_records.specs.Rows.{AreRowsOf}
use Rattle.cell_records.proofs.rows.count_rows.Given as goal

abbrev pub invariant-loop-of : goal.invariant-loop-of
invariant-loop-of l = record {
  all : l.yielded ++ l.of-iterator.rest.items ≡ l.initial.of-iterator.rest.items;
  room : length l.rows.items + length l.of-iterator.rest.items ≤ vec_capacity l.rows;
  rows : AreRowsOf l.image l.yielded l.rows.items;
}
