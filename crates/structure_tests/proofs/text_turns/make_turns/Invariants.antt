use Rattle.std.specs.Prelude.{◌+◌, ◌≤◌}
use Rattle.structure_tests.specs.Texts.{IsReady}
use Rattle.structure_tests.proofs.text_turns.make_turns.Given as goal

abbrev pub invariant-loop-turn : goal.invariant-loop-turn
invariant-loop-turn g l = record {
  ready : IsReady l.domain l.seat;
  left : l.seat.view.client.used + l.turns ≤ l.seat.view.client.quota + l._turn;
  few : l.refused ≤ l._turn;
}
