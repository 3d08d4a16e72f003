use Rattle.linked_queue.proofs.NewNodes.{node_ready}
use Rattle.linked_queue.specs.queue_protocol.Nodes.{IsNodePayload}
use Rattle.queue_turns.proofs.turns.make_item.Goals as goal

pub make-requires-clause-deed : goal.make-requires-clause-deed
make-requires-clause-deed c s mid begins w =
    node_ready IsNodePayload c.args.domain.now s c.args.seat.now mid begins
