use Rattle.std.proofs.Common.{◌≡◌, ◌++◌}
use Rattle.std.specs.List.{flat_map, range_with_len}
use Rattle.cdrc_steps.specs.Meaning.{slot_line}
use Rattle.cdrc_steps.proofs.running.Running.close.Given as goal

abbrev pub invariant-loop-slot : goal.invariant-loop-slot
invariant-loop-slot l =
    l.text.items ≡ l.initial.text.items ++ flat_map (slot_line l.self.shape l.self.core) (range_with_len 0 l.slot)
