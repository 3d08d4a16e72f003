use Rattle.std.specs.Prelude.{◌+◌, ◌≤◌}
use Rattle.structure_tests.specs.Texts.{IsReady}
use Rattle.structure_tests.proofs.text_turns.intern_all.Given as goal

abbrev pub invariant-loop-number : goal.invariant-loop-number
invariant-loop-number g l = record {
  ready : IsReady l.domain l.seat;
  left : l.seat.view.client.used + 2000 ≤ l.seat.view.client.quota + l.number;
  few : l.found ≤ l.number;
}
