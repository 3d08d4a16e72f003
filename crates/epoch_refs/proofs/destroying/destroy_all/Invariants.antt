use Rattle.std.proofs.Common.{length}
use Rattle.epoch_refs.proofs.Destroyed.{DestroyedSoFar}
use Rattle.epoch_refs.proofs.destroying.destroy_all.Given as goal

abbrev pub invariant-loop-slot : goal.invariant-loop-slot
invariant-loop-slot g l =
    DestroyedSoFar g.P.Kind.PayloadKind.fits l.domain g.P.Kind.PayloadKind.weight l.weight
    l.initial.seat l.seat

abbrev pub decreases-loop-slot : goal.decreases-loop-slot
decreases-loop-slot g l = length l.seat.view.core.dying
