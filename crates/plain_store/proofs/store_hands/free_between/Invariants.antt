use Rattle.std.proofs.Common.{◌≢◌, ◌<◌, ◌≤◌, ℕ, slice_index_or}
use Rattle.plain_state.specs.declared.slot.Stage.TheVariants.{Free}
use Rattle.plain_state.specs.State.{new_slot}
use Rattle.plain_store.proofs.store_hands.free_between.Given as goal

abbrev pub invariant-loop-i : goal.invariant-loop-i
invariant-loop-i l = (k : ℕ) → l.from ≤ k → k < l.i → (slice_index_or l.slots k new_slot).stage ≢ Free
