use Rattle.std.specs.Prelude.{◌≡◌, ◌+◌, All, length}
use Rattle.epoch_refs.specs.Walks.{IsFree}
use Rattle.region_turns.proofs.opening.workers_of.Given as goal

abbrev pub invariant-loop-taken : goal.invariant-loop-taken
invariant-loop-taken l = record {
  left : length l.seats.items + l.taken ≡ l.threads;
  rest : All (IsFree l.domain) l.seats.items;
  count : length l.workers.items ≡ l.taken;
  free : All (λ w. IsFree l.domain w.seat) l.workers.items;
}
