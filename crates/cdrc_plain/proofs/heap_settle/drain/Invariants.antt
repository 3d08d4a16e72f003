use Rattle.std.proofs.Common.{◌+◌, ◌-◌, length}
use Rattle.plain_store.specs.Stores.{plain_of}
use Rattle.plain_store.specs.Draining.{per_object}
use Rattle.plain_store.proofs.SettlingRounds.{Drained}
use Rattle.cdrc_plain.proofs.heap_settle.drain.Given as goal

abbrev pub invariant-loop-payload : goal.invariant-loop-payload
invariant-loop-payload g l = Drained g.W.PayloadKind.fits g.W.PayloadKind.weight l.initial.store l.store l.total l.stays

-- each object may yet leave three entries, and each entry is yet to be looked at
abbrev pub decreases-loop-payload : goal.decreases-loop-payload
decreases-loop-payload g l = per_object 4 (plain_of l.store) + (length l.store.deferred.items - l.stays)
