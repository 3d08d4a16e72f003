use Rattle.std.proofs.Common.{◌≡◌, sym, ◌∙◌, Some}
use Rattle.cdrc_steps.proofs.machine.StepMachineLineMachineUnit.take.Goals as goal

pub returns-in-Some-clause-refused : goal.returns-in-Some-clause-refused
returns-in-Some-clause-refused c reason told =
    let is : c.args.self.now ≡ Some c.in-Some.running = sym c.self.view_is ∙ c.in-Some.is in
    rw is (c.take.ensures.refused reason told)
