use Rattle.std.proofs.Common.{◌≡◌, ◌-◌, ◌^◌, take, length}
use Rattle.std.specs.Prelude.{min}
use Rattle.epoch_parts.specs.Pending.{entries}
use Rattle.epoch_parts.proofs.pending.Pending.len.Given as goal

abbrev pub invariant-loop-list : goal.invariant-loop-list
invariant-loop-list l = l.count ≡ min (length (entries (take l.list l.fn.self.queues))) (2 ^ 64 - 1)
