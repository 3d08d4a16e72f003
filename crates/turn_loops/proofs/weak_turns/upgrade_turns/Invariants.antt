use Rattle.std.specs.Prelude.{◌<◌}
use Rattle.snapshot_ptr.specs.plain_state.Lists.{times}
use Rattle.slot_store.specs.core_events.Steps.{HasRoom}
use Rattle.slot_store.specs.control_word.Resting.{IsAtRest}
use Rattle.turn_loops.specs.Turns.{UsedAdds}
use Rattle.turn_loops.proofs.weak_turns.upgrade_turns.Given as goal

abbrev pub invariant-loop-turn : goal.invariant-loop-turn
invariant-loop-turn l = record {
  rest : IsAtRest l.domain l.seat;
  room : HasRoom l.seat.view.core;
  owned : 0 < times l.weak.slot l.seat.view.core.weaks;
  turns : UsedAdds l._turn l.initial.seat.view.core l.seat.view.core;
}
