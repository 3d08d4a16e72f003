use Rattle.lane_domain.proofs.Enough.{makes_left}
use Rattle.lane_domain.proofs.laws.lanes_have_makes.Goals as goal

pub returns : goal.returns
returns c = λ work lanes slots form d stop begun seat before after is.
    makes_left _ work lanes slots form d stop begun seat before after is
