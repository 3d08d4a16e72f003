use Rattle.std.proofs.Common.{length}
use Rattle.epoch_refs.proofs.Payments.{PaidSoFar}
use Rattle.epoch_refs.proofs.paying.pay_due.Given as goal

abbrev pub invariant-loop-paid : goal.invariant-loop-paid
invariant-loop-paid g l =
    PaidSoFar g.P.Kind.PayloadKind.fits l.domain l.paid l.initial.seat l.seat

abbrev pub decreases-loop-paid : goal.decreases-loop-paid
decreases-loop-paid g l = length l.seat.view.core.pending
