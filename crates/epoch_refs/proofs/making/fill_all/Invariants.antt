use Rattle.epoch_refs.proofs.Filling.{Filled}
use Rattle.epoch_refs.proofs.making.fill_all.Given as goal

abbrev pub invariant-loop-index : goal.invariant-loop-index
invariant-loop-index g l =
    Filled g.P.Kind.PayloadKind.fits l.domain l.payload l.index l.fn.slot l.fn.seat l.seat
