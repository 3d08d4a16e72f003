use Rattle.std.specs.Prelude.{◌≡◌}
use Rattle.queue_turns.specs.Queueing.{IsReadyToQueue}
use Rattle.queue_turns.proofs.turns.reap_ended.Given as goal

abbrev pub invariant-loop-reap : goal.invariant-loop-reap
invariant-loop-reap l = record {
  ready : IsReadyToQueue l.domain l.seat;
  owned : l.seat.view.core.owned ≡ l.initial.seat.view.core.owned;
  client : l.seat.view.client ≡ l.initial.seat.view.client;
}
