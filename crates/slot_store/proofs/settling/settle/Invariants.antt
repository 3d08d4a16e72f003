use Rattle.slot_store.proofs.Settles.{UnderWay}
use Rattle.slot_store.proofs.Turning.{work_left}
use Rattle.slot_store.proofs.settling.settle.Given as goal

abbrev pub invariant-loop-weight : goal.invariant-loop-weight
invariant-loop-weight g l =
    UnderWay g.P.Kind.PayloadKind.fits g.P.Kind.PayloadKind.weight l.domain l.weights l.fn.seat l.seat

abbrev pub decreases-loop-weight : goal.decreases-loop-weight
decreases-loop-weight g l = work_left l.domain l.seat
