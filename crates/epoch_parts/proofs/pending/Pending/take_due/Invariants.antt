use Rattle.std.proofs.Common.{◌≡◌, take}
use Rattle.std.specs.Prelude.{All}
use Rattle.std.specs.Vec.{vec_capacity, vec_len}
use Rattle.epoch_parts.specs.Pending.{entries}
use Rattle.epoch_parts.proofs.Queues.{NotDue}
use Rattle.epoch_parts.proofs.pending.Pending.take_due.Given as goal

abbrev pub invariant-loop-list : goal.invariant-loop-list
invariant-loop-list l =
    (l.self-inside.queues.items ≡ l.initial.self-inside.queues.items)
    × (vec_capacity l.self-inside.queues ≡ vec_capacity l.initial.self-inside.queues)
    × (vec_len l.self-inside.queues ≡ vec_len l.initial.self-inside.queues)
    × All (NotDue l.known) (entries (take l.list l.self-inside.queues.items))
