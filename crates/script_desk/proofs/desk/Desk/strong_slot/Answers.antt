use Rattle.script_desk.specs.declared.handle.Handle.TheVariants.{Strong}
use Rattle.script_desk.proofs.Naming.{has_named}
use Rattle.script_desk.proofs.desk.Desk.strong_slot.Goals as goal

pub returns-clause-owns : goal.returns-clause-owns
returns-clause-owns c =
    has_named _ _ _ _ _ _ c.self.invariant _ c.self.view_is c.args.name.now
    (Strong c.strong_slot.result) c.strong_slot.ensures
