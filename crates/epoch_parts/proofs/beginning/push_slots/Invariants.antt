use Rattle.std.proofs.Common.{◌≡◌, ◌++◌}
use Rattle.epoch_core.specs.Words.{all_free}
use Rattle.epoch_parts.proofs.beginning.push_slots.Given as goal

abbrev pub invariant-loop-slot : goal.invariant-loop-slot
invariant-loop-slot l = l.words.items ≡ l.initial.words.items ++ all_free l._slot
