use Rattle.std.specs.Prelude.{◌+◌, ◌≤◌}
use Rattle.structure_tests.specs.Texts.{IsReady}
use Rattle.structure_tests.proofs.tests_places.walks_go_around_the_end_until_every_cell_is_set.Given as goal

abbrev pub invariant-loop-byte : goal.invariant-loop-byte
invariant-loop-byte g l = record {
  ready : IsReady l.domain l.seat;
  left : l.seat.view.client.used + 4 ≤ l.seat.view.client.quota + l.byte-index;
}

abbrev pub invariant-loop-byte-2 : goal.invariant-loop-byte-2
invariant-loop-byte-2 g l = record {
  ready : IsReady l.domain l.seat;
  left : l.seat.view.client.used ≤ l.seat.view.client.quota;
}
