use Rattle.epoch_claims.proofs.Claiming.{claims_are_makes}
use Rattle.epoch_claims.proofs.laws.claims_are_makes.Goals as goal

pub returns : goal.returns
returns c = λ z qs es d shape quotas h. claims_are_makes z qs es d shape quotas h
