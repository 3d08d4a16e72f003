use Rattle.example_stack.proofs.NewNodes.{make_ready}
use Rattle.example_stack.proofs.making.make_node.Goals as goal

pub make-requires-clause-deed : goal.make-requires-clause-deed
make-requires-clause-deed g c =
    make_ready g.K.PayloadKind.fits c.args.domain.now c.args.value.now c.args.seat.now
