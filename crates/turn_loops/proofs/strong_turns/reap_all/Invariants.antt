use Rattle.std.specs.Prelude.{◌≡◌}
use Rattle.slot_store.specs.core_events.Steps.{HasRoom}
use Rattle.slot_store.specs.control_word.Resting.{IsAtRest}
use Rattle.turn_loops.proofs.strong_turns.reap_all.Given as goal

abbrev pub invariant-loop-reap : goal.invariant-loop-reap
invariant-loop-reap l = record {
  rest : IsAtRest l.domain l.seat;
  room : HasRoom l.seat.view.core;
  made : l.seat.view.core.makes ≡ l.initial.seat.view.core.makes;
}
