use Rattle.std.proofs.Common.{◌≡◌, ◌≢◌, ℕ, ◌<◌, get_or}
use Rattle.core_functions.proofs.Slots.{past}
use Rattle.epoch_parts.proofs.ended.take_first.Given as goal

abbrev pub invariant-loop-i : goal.invariant-loop-i
invariant-loop-i l =
    (l.list ≡ l.initial.list)
    × ((k : ℕ) → k < l.i → (get_or l.list.items k past).0 ≢ l.slot.0)
