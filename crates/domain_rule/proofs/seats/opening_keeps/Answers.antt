use Rattle.domain_rule.proofs.Opens.{opens}
use Rattle.domain_rule.proofs.seats.opening_keeps.Goals as goal

pub returns : goal.returns
returns g c = λ it z ts shape terms.
    opens (g.P.Protocol.law it) (g.P.Protocol.first it) g.P.Protocol.gone g.P.Kind.PayloadKind.fits z ts shape terms
    (g.P.Protocol.start it)
