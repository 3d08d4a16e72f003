use Rattle.acquire_retire.specs.Collecting.{PaysFor}
use Rattle.acquire_retire.proofs.domain.Domain.pay_all.Given as goal

abbrev pub invariant-loop-entry : goal.invariant-loop-entry
invariant-loop-entry g l = PaysFor g.P.Kind.PayloadKind.fits l.self l.fn.seat l.seat l._entry l.ended
