use Rattle.protected_loads.proofs.Below.core_law_Always.{history_sound}
use Rattle.domain_audit.proofs.Showing.{lone_audited}
use Rattle.domain_audit.proofs.laws.image_can_be_audited.Goals as goal

pub returns : goal.returns
returns g c = λ z ts events core heap shape terms history lone fit is.
    lone_audited z core (history_sound z ts events core shape terms history) lone
    g.W.PayloadKind.fits fit heap is
