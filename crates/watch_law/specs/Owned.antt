-- What observers and deliveries own.
use Rattle.std.specs.Prelude.{◌+◌, ◌<◌, ◌≤◌}
use Rattle.plain_protocol.specs.Acts.{Owned}
use Rattle.watch_law.specs.Payloads.{IsOwn}
use Rattle.watch_law.specs.Law.{Area}

-- the weak cells of the range, and the objects that are observers or deliveries
abbrev pub owns : Area → Owned
owns z = record {
  cell = λ i. ⊥;
  weak_cell = λ i. (z.first ≤ i) × (i < z.first + z.cells);
  payload = IsOwn;
  tickets = ⊥;
}
