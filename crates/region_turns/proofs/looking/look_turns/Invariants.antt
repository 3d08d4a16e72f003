use Rattle.epoch_refs.specs.Walks.{IsFree}
use Rattle.region_turns.specs.Visits.{HasVisitedEach}
use Rattle.region_turns.proofs.looking.look_turns.Given as goal

abbrev pub invariant-loop-turn : goal.invariant-loop-turn
invariant-loop-turn l = record {
  free : IsFree l.domain l.seat;
  turns : HasVisitedEach l.thread l.looks l.turn l.initial.seat.view.core l.seat.view.core;
}
