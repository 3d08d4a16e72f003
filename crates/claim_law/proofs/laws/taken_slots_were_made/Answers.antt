use Rattle.claim_law.proofs.Taken.{taken_slots_were_made}
use Rattle.claim_law.proofs.laws.taken_slots_were_made.Goals as goal

pub returns : goal.returns
returns c = λ z ts es d n shape terms h hn here left shown.
    taken_slots_were_made z ts es d n shape terms h hn here left shown
