use Rattle.std.proofs.Common.{refl}
use Rattle.linked_queue.specs.UnlessRipe.{next_unless}
use Rattle.queue_protocol.specs.queue_law.Pops.{empty_next}
use Rattle.linked_queue.proofs.Owning.{owned_node}
use Rattle.linked_queue.proofs.Accepting.{kept_all, unless_kept}
use Rattle.part_calls.specs.Parts.{seen_by}
use Rattle.std.specs.Prelude.{None}
use Rattle.queue_protocol.specs.plain_state.declared.act.EventPlace.TheVariants.{Field}
use Rattle.linked_queue.proofs.Leavings.{exchange_leaves}
use Rattle.linked_queue.proofs.taking.empty.Goals as goal

pub store-requires-clause-accepted : goal.store-requires-clause-accepted
store-requires-clause-accepted g c =
    kept_all g.P.Part.seen g.P.Part.suits g.met.P.HasQueue.accepts
    c.args.domain.now.protocol c.args.seat.now.view.client (next_unless empty_next)
    (unless_kept empty_next (λ own after v a w. refl))

pub store-requires-clause-within : goal.store-requires-clause-within
store-requires-clause-within g c =
    owned_node c.args.dummy c.args.seat.now c.requires.dummy.owns c.requires.dummy.is_node

pub returns-clause-leaves : goal.returns-clause-leaves
returns-clause-leaves g c =
    exchange_leaves (Field c.args.dummy 1) _ None _ (seen_by g.P.Part.seen c.args.seat.now)
    (seen_by g.P.Part.seen c.store.new.seat) refl c.store.ensures.stored.swaps
    c.store.ensures.objects
