use Rattle.std.proofs.Common.{◌≡◌, ◌++◌}
use Rattle.core_events.specs.Words.{each_from, full_bits}
use Rattle.core_functions.proofs.beginning.push_bits.Given as goal

abbrev pub invariant-loop-at : goal.invariant-loop-at
invariant-loop-at l =
    l.words.items ≡ l.initial.words.items ++ each_from 0 l.at (full_bits l.shape)
