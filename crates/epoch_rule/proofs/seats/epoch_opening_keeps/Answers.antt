use Rattle.epoch_rule.proofs.Opens.{opens}
use Rattle.epoch_rule.proofs.seats.epoch_opening_keeps.Goals as goal

pub returns : goal.returns
returns g c = λ it z qs shape quotas.
    opens (g.P.Protocol.law it) (g.P.Protocol.first it) g.P.Protocol.gone
    g.P.Kind.PayloadKind.fits z qs shape quotas (g.P.Protocol.start it)
