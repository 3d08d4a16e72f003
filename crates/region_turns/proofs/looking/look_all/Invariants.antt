use Rattle.epoch_refs.specs.epoch_core.Views.{IsInside}
use Rattle.epoch_refs.specs.Walks.{IsAtRest}
use Rattle.region_turns.specs.Visits.{HasLooked}
use Rattle.region_turns.proofs.looking.look_all.Given as goal

abbrev pub invariant-loop-number : goal.invariant-loop-number
invariant-loop-number l = record {
  rest : IsAtRest l.domain l.seat;
  inside : IsInside l.seat.view.core;
  looked : HasLooked l.first l.number l.initial.seat.view.core l.seat.view.core;
}
