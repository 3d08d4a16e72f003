use Rattle.std.proofs.Common.{◌≡◌, ◌++◌, take, map}
use Rattle.epoch_parts.specs.Pending.{deferred_of}
use Rattle.epoch_parts.proofs.dated_queue.DatedQueue.push_deferred.Given as goal

abbrev pub invariant-loop-i : goal.invariant-loop-i
invariant-loop-i l =
    l.deferred.items ≡ l.fn.deferred.items ++ map deferred_of (take l.i l.fn.self.entries)
