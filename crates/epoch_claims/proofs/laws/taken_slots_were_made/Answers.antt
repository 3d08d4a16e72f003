use Rattle.epoch_claims.proofs.Taken.{taken_slots_were_made}
use Rattle.epoch_claims.proofs.laws.taken_slots_were_made.Goals as goal

pub returns : goal.returns
returns c = λ z qs es d n shape quotas h hn left shown.
    taken_slots_were_made z qs es d n shape quotas h hn left shown
