use Rattle.epoch_rule.proofs.Leaves.{leaves}
use Rattle.epoch_rule.proofs.seats.epoch_leave_keeps.Goals as goal

pub returns : goal.returns
returns g c = λ it z qs id other v w here there root can0 canj.
    leaves (g.P.Protocol.law it) (g.P.Protocol.first it) g.P.Kind.PayloadKind.fits z qs
    (g.P.Protocol.joined it) g.P.Protocol.gone (g.P.Protocol.leave it) id other v w here there root
    can0 canj
