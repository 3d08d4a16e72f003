use Rattle.epoch_refs.proofs.Seeing.{SeenSoFar}
use Rattle.epoch_refs.proofs.destroying.see_all.Given as goal

abbrev pub invariant-loop-index : goal.invariant-loop-index
invariant-loop-index g l =
    SeenSoFar g.P.Kind.PayloadKind.fits l.domain l.slot l.index l.payload l.initial.seat l.seat
