use Rattle.std.proofs.Common.{◌≡◌, vec_capacity, vec_len, length}
use Rattle.core_law.specs.core_events.Runs.{start}
use Rattle.cdrc_core.proofs.Replaying.{Replayed}
use Rattle.cdrc_core.proofs.machine.Core.replay_granted.Given as goal

abbrev pub invariant-loop-at : goal.invariant-loop-at
invariant-loop-at l = record {
  replayed : Replayed l.fn.shape (start l.fn.shape (record { quotas = l.fn.quotas; grants = l.fn.grants })) l.events l.at l.core l.outcomes.items;
  count : vec_len l.outcomes ≡ l.at;
  room : vec_capacity l.outcomes ≡ length l.events;
}
