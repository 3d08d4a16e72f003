use Rattle.std.proofs.Common.{refl, inr}
use Rattle.queue_protocol.specs.queue_law.Opening.{shut_tail_next}
use Rattle.linked_queue.proofs.Accepting.{kept_all}
use Rattle.part_calls.specs.Parts.{seen_by}
use Rattle.std.specs.Prelude.{None}
use Rattle.queue_protocol.specs.plain_state.declared.act.EventPlace.TheVariants.{Cell}
use Rattle.linked_queue.proofs.Leavings.{exchange_leaves}
use Rattle.linked_queue.proofs.shutting.shut_tail.Goals as goal

pub store-requires-clause-accepted : goal.store-requires-clause-accepted
store-requires-clause-accepted g c =
    kept_all g.P.Part.seen g.P.Part.suits g.met.P.HasQueue.accepts
    c.args.domain.now.protocol c.args.seat.now.view.client shut_tail_next
    (λ own after v a w. refl)

pub store-requires-clause-within : goal.store-requires-clause-within
store-requires-clause-within g c =
    inr c.requires.tail

pub returns-clause-leaves : goal.returns-clause-leaves
returns-clause-leaves g c =
    exchange_leaves (Cell c.args.tail) _ None _ (seen_by g.P.Part.seen c.args.seat.now)
    (seen_by g.P.Part.seen c.store.new.seat) refl c.store.ensures.stored.swaps
    c.store.ensures.objects
