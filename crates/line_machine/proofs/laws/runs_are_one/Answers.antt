use Rattle.line_machine.proofs.Ones.{runs_are_one}
use Rattle.line_machine.proofs.laws.runs_are_one.Goals as goal

pub returns : goal.returns
returns g c = runs_are_one g.M.LineMachine.takes g.M.LineMachine.refuses g.M.LineMachine.ends
