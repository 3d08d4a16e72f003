use Rattle.epoch_rule.proofs.Reading.{reads}
use Rattle.epoch_rule.proofs.seats.epoch_reading_keeps.Goals as goal

pub returns : goal.returns
returns g c = λ it z qs slots id word me here.
    reads (g.P.Protocol.law it) (g.P.Protocol.first it) g.P.Protocol.gone
    g.P.Kind.PayloadKind.fits z qs slots id word me here
