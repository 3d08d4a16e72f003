use Rattle.std.specs.Prelude.{◌+◌, ◌≤◌}
use Rattle.call_times.specs.Interning.{IsReadyToIntern}
use Rattle.call_times.proofs.interning.intern_all.Given as goal

abbrev pub invariant-loop-turn : goal.invariant-loop-turn
invariant-loop-turn g l = record {
  ready : IsReadyToIntern l.domain l.seat;
  left : l.seat.view.client.used + 250000 ≤ l.seat.view.client.quota + l._turn;
  interned : l._turn ≤ l.seat.view.client.used;
}
