use Rattle.claim_law.proofs.Given.{makes_fit, makes_spare}
use Rattle.claim_law.proofs.laws.makes_fit.Goals as goal

pub returns-clause-all : goal.returns-clause-all
returns-clause-all c = λ z ts es d shape terms h. makes_fit z ts shape terms es d h

pub returns-clause-spare : goal.returns-clause-spare
returns-clause-spare c = λ z ts es d n shape terms h hn here left.
    makes_spare z ts shape terms es d h n hn here left
