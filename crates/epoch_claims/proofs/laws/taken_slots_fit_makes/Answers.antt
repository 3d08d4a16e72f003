use Rattle.epoch_claims.proofs.Taken.{taken_slots_fit_makes}
use Rattle.epoch_claims.proofs.laws.taken_slots_fit_makes.Goals as goal

pub returns : goal.returns
returns c = λ z qs es d n shape quotas h hn shown.
    taken_slots_fit_makes z qs es d n shape quotas h hn shown
