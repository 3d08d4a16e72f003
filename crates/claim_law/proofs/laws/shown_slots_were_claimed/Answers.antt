use Rattle.claim_law.proofs.Shown.{all_claimed}
use Rattle.claim_law.proofs.laws.shown_slots_were_claimed.Goals as goal

pub returns : goal.returns
returns c = λ z ts es d n s shape terms h hn hs shows.
    (all_claimed z ts es d shape terms h).trails n s hn hs shows
