use Rattle.lone_heap.specs.Lone.{known_plain}
use Rattle.domain_desk.proofs.GivenUp.{uncounted_ends}
use Rattle.domain_desk.proofs.giving.end_snapshot.Goals as goal

pub returns-else-counted-clause-ends : goal.returns-else-counted-clause-ends
returns-else-counted-clause-ends c =
    uncounted_ends (known_plain c.args.domain.now c.args.seat.now)
    (known_plain c.args.domain.now c.end.new.seat) c.args.hand.0 c.slot-else-counted.result
    c.args.hand.1 c.counted.result c.counted.ensures c.if-counted.false c.slot-else-counted.ensures
    c.end.ensures.ends
