use Rattle.claim_law.proofs.Shown.{all_claimed}
use Rattle.claim_law.proofs.laws.clear_bits_were_claimed.Goals as goal

pub returns : goal.returns
returns c = λ z ts es d s shape terms h hs clear.
    (all_claimed z ts es d shape terms h).bits s hs clear
