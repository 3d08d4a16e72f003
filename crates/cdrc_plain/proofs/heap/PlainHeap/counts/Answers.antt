use Rattle.std.proofs.Common.{sym, subst}
use Rattle.plain_protocol.specs.plain_state.State.{Plain, seat_at}
use Rattle.plain_protocol.specs.plain_state.Places.{Holds}
use Rattle.plain_store.proofs.Stores.{held_slot}
use Rattle.cdrc_plain.proofs.heap.PlainHeap.counts.Goals as goal

pub counts-requires-clause-there : goal.counts-requires-clause-there
counts-requires-clause-there g c =
    held_slot c.self.inside.store c.args.slot c.self.invariant.0
    (subst (λ (p : Plain). Holds (seat_at p 0) c.args.slot) (sym c.self.view_is) c.requires)
