use Rattle.plain_protocol.proofs.laws.fits_stay.Goals as goal
use Rattle.plain_protocol.proofs.StepFits.{step_fits}

pub returns : goal.returns
returns g c p q n step found does made all =
    step_fits g.K.PayloadKind.fits p q n step found does made all
