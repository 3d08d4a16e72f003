use Rattle.protected_loads.proofs.Losing.{HasLost}
use Rattle.protected_loads.proofs.retrying.load.Given as goal

abbrev pub invariant-loop : goal.invariant-loop
invariant-loop g l =
    (goal.iterator-loop g).can_next l.iterator' × (goal.iterator-loop g).is_finite l.iterator'
    × HasLost g.P.Kind.PayloadKind.fits l.domain l.place 0
    (g.D.Deed.next l.deed l.domain.protocol) (g.D.Deed.allows l.deed l.domain.protocol)
    l.fn.seat l.seat
