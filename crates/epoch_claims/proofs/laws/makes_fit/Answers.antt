use Rattle.epoch_claims.proofs.Given.{makes_fit, makes_spare}
use Rattle.epoch_claims.proofs.laws.makes_fit.Goals as goal

pub returns-clause-all : goal.returns-clause-all
returns-clause-all c = λ z qs es d shape quotas h. makes_fit z qs shape quotas es d h

pub returns-clause-spare : goal.returns-clause-spare
returns-clause-spare c = λ z qs es d n shape quotas h hn left.
    makes_spare z qs shape quotas es d h n hn left
