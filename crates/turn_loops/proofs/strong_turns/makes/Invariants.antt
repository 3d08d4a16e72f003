use Rattle.slot_store.specs.core_events.Steps.{HasRoom}
use Rattle.slot_store.specs.control_word.Resting.{IsAtRest}
use Rattle.turn_loops.specs.Turns.{MadeObjects}
use Rattle.turn_loops.proofs.strong_turns.makes.Given as goal

abbrev pub invariant-loop-turn : goal.invariant-loop-turn
invariant-loop-turn l = record {
  rest : IsAtRest l.domain l.seat;
  room : HasRoom l.seat.view.core;
  turns : MadeObjects l.turn l.initial.seat.view.core l.seat.view.core;
}
