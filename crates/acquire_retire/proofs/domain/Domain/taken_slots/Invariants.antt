use Rattle.std.proofs.Common.{◌≡◌}
use Rattle.acquire_retire.specs.Taken.{taken_below}
use Rattle.acquire_retire.specs.Wholes.{IsSame, known_state}
use Rattle.acquire_retire.proofs.domain.Domain.taken_slots.Given as goal

abbrev pub invariant-loop-slot : goal.invariant-loop-slot
invariant-loop-slot g l = record {
  same : IsSame l.fn.seat l.seat;
  taken : l.taken.items ≡ taken_below (known_state l.fn.self l.fn.seat) l.slot;
}
