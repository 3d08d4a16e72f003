-- What a directory owns, and with what its seats begin.
use Rattle.std.specs.Prelude.{ℕ, ◌+◌, ◌<◌, ◌≤◌, slice_index_or}
use Rattle.plain_protocol.specs.Acts.{Owned}
use Rattle.directory_law.specs.Payloads.{IsOwn}
use Rattle.directory_law.specs.Views.{View, gone}
use Rattle.directory_law.specs.Cells.{Area}

-- the weak cells of its range, and the objects whose word 0 isn't 0. Tickets are no one's: the law asks only that at
-- least so many were drawn
abbrev pub owns : Area → Owned
owns z = record {
  cell = λ i. ⊥;
  weak_cell = λ i. (z.first ≤ i) × (i < z.first + z.cells);
  payload = IsOwn;
  tickets = ⊥;
}

-- the view of seat n at the start
abbrev pub first_view : Area → ℕ → View
first_view z n = record gone { quota = slice_index_or z.interns n 0 }
