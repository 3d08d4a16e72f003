use Rattle.domain_rule.proofs.Reading.{reads}
use Rattle.domain_rule.proofs.seats.reading_keeps.Goals as goal

pub returns : goal.returns
returns g c = λ it z ts slots id word me here.
    reads (g.P.Protocol.law it) (g.P.Protocol.first it) g.P.Protocol.gone g.P.Kind.PayloadKind.fits z ts slots id word
    me here
