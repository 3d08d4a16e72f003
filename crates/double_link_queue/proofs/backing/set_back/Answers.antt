use Rattle.std.proofs.Common.{refl}
use Rattle.weak_part_calls.specs.plain_state.declared.act.EventPlace.TheVariants.{WeakField}
use Rattle.weak_part_calls.specs.part_calls.Parts.{as_part, seen_by}
use Rattle.linked_queue.specs.queue_law.Nodes.{back_next}
use Rattle.linked_queue.specs.UnlessRipe.{next_unless}
use Rattle.linked_queue.proofs.Accepting.{kept_all, unless_kept}
use Rattle.linked_queue.proofs.Owning.{owned_node}
use Rattle.double_link_queue.proofs.Backs.{backed}
use Rattle.double_link_queue.proofs.Leavings.{weak_exchange_leaves}
use Rattle.double_link_queue.proofs.backing.set_back.Goals as goal

pub store_weak-requires-clause-accepted : goal.store_weak-requires-clause-accepted
store_weak-requires-clause-accepted g c =
    kept_all g.P.Part.seen g.P.Part.suits g.met.P.HasQueue.accepts
    c.args.domain.now.protocol c.args.seat.now.view.client (next_unless back_next)
    (unless_kept back_next (λ own after v a w. refl))

pub store_weak-requires-clause-within : goal.store_weak-requires-clause-within
store_weak-requires-clause-within g c =
    owned_node c.args.node c.args.seat.now c.requires.load.owns c.requires.load.is_node

pub returns-clause-backed : goal.returns-clause-backed
returns-clause-backed g c =
    backed g.P.Kind.PayloadKind.fits (as_part g.P.Part.part c.args.domain.now) c.args.node
    c.args.back.slot (seen_by g.P.Part.seen c.args.seat.now)
    (seen_by g.P.Part.seen c.store_weak.new.seat) c.store_weak.ensures.stored

pub returns-clause-leaves : goal.returns-clause-leaves
returns-clause-leaves g c =
    weak_exchange_leaves (WeakField c.args.node) _ c.args.back.slot _
    (seen_by g.P.Part.seen c.args.seat.now) (seen_by g.P.Part.seen c.store_weak.new.seat) refl
    c.store_weak.ensures.stored.swaps c.store_weak.ensures.objects
