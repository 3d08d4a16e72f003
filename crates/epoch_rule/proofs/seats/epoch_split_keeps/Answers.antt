use Rattle.epoch_rule.proofs.Splits.{splits}
use Rattle.epoch_rule.proofs.seats.epoch_split_keeps.Goals as goal

pub returns : goal.returns
returns g c = λ it z qs id v here root more.
    splits (g.P.Protocol.law it) (g.P.Protocol.first it) g.P.Protocol.gone
    g.P.Kind.PayloadKind.fits z qs id v here root more
