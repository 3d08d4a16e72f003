use Rattle.std.proofs.Common.{◌≡◌, ◌++◌, take, map}
use Rattle.epoch_parts.specs.Pending.{deferred_of, entries}
use Rattle.epoch_parts.proofs.pending.Pending.push_deferred.Given as goal

abbrev pub invariant-loop-list : goal.invariant-loop-list
invariant-loop-list l =
    l.deferred.items ≡ l.fn.deferred.items ++ map deferred_of (entries (take l.list l.fn.self.queues))
