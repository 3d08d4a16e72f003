use Rattle.epoch_refs.proofs.RegionWords.{SoFar}
use Rattle.epoch_refs.proofs.sweeping.scan_all.Given as goal

abbrev pub invariant-loop-seat : goal.invariant-loop-seat
invariant-loop-seat g l =
    SoFar g.P.Kind.PayloadKind.fits l.domain l._seat l.initial.seat l.seat
