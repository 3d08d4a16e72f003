use Rattle.epoch_refs.specs.Walks.{IsFree}
use Rattle.region_turns.specs.Stores.{HasStoredEach}
use Rattle.region_turns.specs.Turns.{MadeObjects}
use Rattle.region_turns.proofs.storing.store_turns.Given as goal

abbrev pub invariant-loop-turn : goal.invariant-loop-turn
invariant-loop-turn l = record {
  free : IsFree l.domain l.seat;
  made : MadeObjects l.turn l.initial.seat.view.core l.seat.view.core;
  stored : HasStoredEach l.seed l.turn l.state l.initial.seat.view.core l.seat.view.core;
}
