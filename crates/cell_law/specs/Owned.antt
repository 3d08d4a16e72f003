-- What the protocol owns: the cells of its range, and every object; and with what its seats begin.
use Rattle.std.specs.Prelude.{ℕ, ◌+◌, ◌<◌, ◌≤◌}
use Rattle.plain_protocol.specs.Acts.{Owned}
use Rattle.directory_law.specs.Cells.{Area}
use Rattle.cell_law.specs.Views.{View, gone}
use Rattle.cell_law.specs.Cells.{grant}

abbrev pub owns : Area → Owned
owns z = record {
  cell = λ i. (z.first ≤ i) × (i < z.first + z.cells);
  weak_cell = λ i. ⊥;
  payload = λ words. Unit {0};
  tickets = ⊥;
}

-- the view of seat n at the start
abbrev pub first_view : Area → ℕ → View
first_view z n = record gone { grant = grant z n }
