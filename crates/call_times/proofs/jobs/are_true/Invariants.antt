use Rattle.std.specs.Prelude.{ℕ, ◌≡◌, ◌<◌, false, slice_index_or, true}
use Rattle.call_times.proofs.jobs.are_true.Given as goal

abbrev pub invariant-loop-flag : goal.invariant-loop-flag
invariant-loop-flag l = (i : ℕ) → i < l.flag-index → slice_index_or l.flags i false ≡ true
