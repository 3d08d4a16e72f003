use Rattle.cell_domain.proofs.Enough.{slots_lacked}
use Rattle.cell_domain.proofs.laws.full_domains_lack_slots.Goals as goal

pub returns : goal.returns
returns c = λ work lanes slots i d seat ending is less begins ends.
    slots_lacked work lanes slots i d seat is less begins ending ends
