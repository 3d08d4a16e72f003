use Rattle.script_desk.specs.Kinds.{script_weight}
use Rattle.script_desk.proofs.Desking.{settle_told}
use Rattle.script_desk.proofs.Sums.{kept_same}
use Rattle.script_desk.proofs.Steps.{settles_same}
use Rattle.script_desk.proofs.desk.Desk.settle.Goals as goal

pub invariant_of-self-2 : goal.invariant_of-self-2
invariant_of-self-2 c =
    kept_same _ _ _ _ _ c.self.invariant c.settle.new.self
    (settles_same script_weight _ _ c.in_ok-settle.field-0 c.in_ok-settle.ensures.settles)

pub returns : goal.returns
returns c =
    settle_told _ _ _ _ _ c.self.view_is c.settle.new.self c.in_ok-settle.field-0
    c.in_ok-settle.ensures.settles c.in_ok-settle.ensures.settled
