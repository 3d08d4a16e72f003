use Rattle.std.proofs.Common.{refl, ap}
use Rattle.linked_queue.specs.queue_law.Nodes.{make_next}
use Rattle.linked_queue.proofs.Accepting.{kept_all}
use Rattle.weak_part_calls.specs.part_calls.Parts.{as_part, seen_by}
use Rattle.linked_queue.specs.Nodes.{HasNode}
use Rattle.linked_queue.proofs.NewNodes.{made_node, node_ready}
use Rattle.linked_queue.proofs.Leavings.{then_ok_both, spent_still}
use Rattle.weak_part_calls.specs.slot_store.declared.making.MakeError.TheVariants as refused
use Rattle.double_link_queue.proofs.laying.make_node.Goals as goal

pub make-requires-clause-deed : goal.make-requires-clause-deed
make-requires-clause-deed g c s mid begins w =
    node_ready g.P.Kind.PayloadKind.fits (as_part g.P.Part.part c.args.domain.now) s (seen_by
    g.P.Part.seen c.args.seat.now) mid begins

pub returns-clause-node : goal.returns-clause-node
returns-clause-node g c =
    let d = as_part g.P.Part.part c.args.domain.now in
    let fits = g.P.Kind.PayloadKind.fits in
    let before = seen_by g.P.Part.seen c.args.seat.now in
    let after_make = seen_by g.P.Part.seen c.make.new.seat in
    then_ok_both _ _ (λ node. HasNode node.slot after_make) c.make.result
    (λ node makes owns. made_node fits d node.slot before after_make makes
    owns)
    c.make.ensures.made c.make.ensures.owned

pub make-requires-clause-accepted : goal.make-requires-clause-accepted
make-requires-clause-accepted g c =
    kept_all g.P.Part.seen g.P.Part.suits g.met.P.HasQueue.accepts
    c.args.domain.now.protocol c.args.seat.now.view.client make_next
    (λ own after v a w. refl)

pub returns-clause-spent : goal.returns-clause-spent
returns-clause-spent g c =
    spent_still refused.AddsSpent c.make.result (seen_by g.P.Part.seen c.args.seat.now)
    (seen_by g.P.Part.seen c.make.new.seat)
    (λ e. ap (seen_by g.P.Part.seen) (c.make.ensures.no_add e)) (λ e. (c.make.ensures.adds_spent.0 e).1)
