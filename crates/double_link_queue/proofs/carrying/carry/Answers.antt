use Rattle.linked_queue.specs.UnlessRipe.{next_unless}
use Rattle.linked_queue.specs.queue_law.Nodes.{carry_next}
use Rattle.linked_queue.proofs.Owning.{owned_node}
use Rattle.linked_queue.proofs.Accepting.{kept_all, unless_kept}
use Rattle.weak_part_calls.specs.part_calls.Parts.{as_part, seen_by}
use Rattle.std.proofs.Common.{refl}
use Rattle.std.specs.Prelude.{Some}
use Rattle.weak_part_calls.specs.plain_state.declared.act.EventPlace.TheVariants.{Field}
use Rattle.linked_queue.proofs.Leavings.{exchange_leaves}
use Rattle.linked_queue.proofs.Carryings.{carries, carries_item}
use Rattle.double_link_queue.proofs.carrying.carry.Goals as goal

pub returns-clause-load : goal.returns-clause-load
returns-clause-load g c =
    let d = as_part g.P.Part.part c.args.domain.now in
    let fits = g.P.Kind.PayloadKind.fits in
    let before = seen_by g.P.Part.seen c.args.seat.now in
    let after_store = seen_by g.P.Part.seen c.store.new.seat in
    carries fits d c.args.node c.args.item.slot before after_store
    c.requires.node c.store.ensures.stored c.requires.left
    (exchange_leaves (Field c.args.node 1) _ (Some c.args.item.slot) _ before
    after_store refl c.store.ensures.stored.swaps c.store.ensures.objects)

pub returns-clause-carried : goal.returns-clause-carried
returns-clause-carried g c =
    let d = as_part g.P.Part.part c.args.domain.now in
    let fits = g.P.Kind.PayloadKind.fits in
    let before = seen_by g.P.Part.seen c.args.seat.now in
    let after_store = seen_by g.P.Part.seen c.store.new.seat in
    carries_item fits d c.args.node c.args.item.slot before after_store
    c.requires.node c.store.ensures.stored c.requires.item

pub store-requires-clause-accepted : goal.store-requires-clause-accepted
store-requires-clause-accepted g c =
    kept_all g.P.Part.seen g.P.Part.suits g.met.P.HasQueue.accepts
    c.args.domain.now.protocol c.args.seat.now.view.client (next_unless carry_next)
    (unless_kept carry_next (λ own after v a w. refl))

pub store-requires-clause-within : goal.store-requires-clause-within
store-requires-clause-within g c =
    owned_node c.args.node c.args.seat.now c.requires.node.owns c.requires.node.is_node

pub returns-clause-leaves : goal.returns-clause-leaves
returns-clause-leaves g c =
    exchange_leaves (Field c.args.node 1) _ (Some c.args.item.slot) _ (seen_by g.P.Part.seen c.args.seat.now)
    (seen_by g.P.Part.seen c.store.new.seat) refl c.store.ensures.stored.swaps
    c.store.ensures.objects
