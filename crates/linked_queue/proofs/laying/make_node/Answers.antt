use Rattle.std.proofs.Common.{ap, refl}
use Rattle.queue_protocol.specs.queue_law.Nodes.{make_next}
use Rattle.linked_queue.proofs.Accepting.{kept_all}
use Rattle.part_calls.specs.Parts.{as_part, seen_by}
use Rattle.slot_store.specs.declared.making.MakeError.TheVariants as refused
use Rattle.linked_queue.specs.Nodes.{HasNode}
use Rattle.linked_queue.proofs.NewNodes.{made_node, node_ready}
use Rattle.linked_queue.proofs.Leavings.{spent_still, then_ok_both}
use Rattle.linked_queue.proofs.laying.make_node.Goals as goal

pub make-requires-clause-deed : goal.make-requires-clause-deed
make-requires-clause-deed g c s mid begins w =
    node_ready g.P.Kind.PayloadKind.fits (as_part g.P.Part.part c.args.domain.now) s (seen_by g.P.Part.seen c.args.seat.now) mid begins

pub returns-clause-node : goal.returns-clause-node
returns-clause-node g c =
    then_ok_both _ _ (λ node. HasNode node.slot (seen_by g.P.Part.seen c.make.new.seat)) c.make.result
    (λ node makes owns. made_node g.P.Kind.PayloadKind.fits (as_part g.P.Part.part c.args.domain.now) node.slot (seen_by g.P.Part.seen c.args.seat.now) (seen_by g.P.Part.seen c.make.new.seat) makes
    owns)
    c.make.ensures.made c.make.ensures.owned

pub make-requires-clause-accepted : goal.make-requires-clause-accepted
make-requires-clause-accepted g c =
    kept_all g.P.Part.seen g.P.Part.suits g.met.P.HasQueue.accepts
    c.args.domain.now.protocol c.args.seat.now.view.client make_next
    (λ own after v a w. refl)

pub returns-clause-spent : goal.returns-clause-spent
returns-clause-spent g c =
    spent_still refused.AddsSpent c.make.result (seen_by g.P.Part.seen c.args.seat.now)
    (seen_by g.P.Part.seen c.make.new.seat)
    (λ e. ap (seen_by g.P.Part.seen) (c.make.ensures.no_add e)) (λ e. (c.make.ensures.adds_spent.0 e).1)
