use Rattle.queue_turns.specs.Queueing.{HasPushed, IsReadyToQueue, OwnsAsMuch}
use Rattle.queue_turns.proofs.turns.queue_all.Given as goal

abbrev pub invariant-loop-turn : goal.invariant-loop-turn
invariant-loop-turn g l = record {
  ready : IsReadyToQueue l.domain l.seat;
  owned : OwnsAsMuch l.initial.seat l.seat;
  turns : HasPushed l._turn l.initial.seat.view.client l.seat.view.client;
}
