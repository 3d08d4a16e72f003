use Rattle.slot_store.proofs.SeeingAll.{Seen}
use Rattle.slot_store.proofs.reaping.read_all.Given as goal

abbrev pub invariant-loop-index : goal.invariant-loop-index
invariant-loop-index g l =
    Seen g.P.Kind.PayloadKind.fits l.domain l.fn.slot l.index l.payload l.fn.seat l.seat
