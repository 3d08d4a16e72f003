use Rattle.epoch_claims.proofs.Shown.{all_claimed}
use Rattle.epoch_claims.proofs.laws.shown_slots_were_claimed.Goals as goal

pub returns : goal.returns
returns c = λ z qs es d n s shape quotas h. all_claimed z qs shape quotas es d h n s
