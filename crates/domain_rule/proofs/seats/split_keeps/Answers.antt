use Rattle.domain_rule.proofs.Splits.{splits}
use Rattle.domain_rule.proofs.seats.split_keeps.Goals as goal

pub returns : goal.returns
returns g c = λ it z ts id v here root more.
    splits (g.P.Protocol.law it) (g.P.Protocol.first it) g.P.Protocol.gone g.P.Kind.PayloadKind.fits z ts id v here
    root more
