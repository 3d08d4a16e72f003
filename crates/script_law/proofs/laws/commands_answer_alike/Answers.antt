use Rattle.script_law.proofs.Running.{runs_alike}
use Rattle.script_law.proofs.laws.commands_answer_alike.Goals as goal

pub returns : goal.returns
returns c = runs_alike
