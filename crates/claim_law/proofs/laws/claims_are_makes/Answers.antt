use Rattle.claim_law.proofs.Claiming.{claims_are_makes}
use Rattle.claim_law.proofs.laws.claims_are_makes.Goals as goal

pub returns : goal.returns
returns c = λ z ts es d shape terms h. claims_are_makes z ts es d shape terms h
