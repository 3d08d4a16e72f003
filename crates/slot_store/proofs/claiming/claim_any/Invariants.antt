use Rattle.slot_store.proofs.Searches.{Trying}
use Rattle.slot_store.proofs.claiming.claim_any.Given as goal

abbrev pub invariant-loop-turn : goal.invariant-loop-turn
invariant-loop-turn g l =
    Trying g.P.Kind.PayloadKind.fits l.domain l.first.0 l.turn l.home l.found l.fn.seat l.seat
