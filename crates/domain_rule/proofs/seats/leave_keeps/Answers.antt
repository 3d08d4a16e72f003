use Rattle.domain_rule.proofs.Leaves.{leaves}
use Rattle.domain_rule.proofs.seats.leave_keeps.Goals as goal

pub returns : goal.returns
returns g c = λ it z ts id other v w here there root can0 canj.
    leaves (g.P.Protocol.law it) (g.P.Protocol.first it) g.P.Kind.PayloadKind.fits z ts
    (g.P.Protocol.joined it) g.P.Protocol.gone (g.P.Protocol.leave it) id other v w here there root
    can0 canj
