use Rattle.script_desk.proofs.Naming.{slot_there}
use Rattle.script_desk.proofs.desk.Desk.slot.Goals as goal

pub returns : goal.returns
returns c =
    slot_there _ _ _ _ _ _ c.self.invariant _ c.self.view_is c.args.name.now c.slot.result
    c.slot.ensures
