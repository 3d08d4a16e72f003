use Rattle.cell_domain.proofs.Enough.{makes_left}
use Rattle.cell_domain.proofs.laws.lanes_have_makes.Goals as goal

pub returns : goal.returns
returns c = λ work lanes slots i d seat ending is less begins ends.
    makes_left work lanes slots i d seat is less begins ending ends
