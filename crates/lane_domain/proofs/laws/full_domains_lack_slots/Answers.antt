use Rattle.lane_domain.proofs.Enough.{slots_lacked}
use Rattle.lane_domain.proofs.laws.full_domains_lack_slots.Goals as goal

pub returns : goal.returns
returns c = λ work lanes slots form d stop begun seat before after is.
    slots_lacked _ work lanes slots form d stop begun seat before after is
