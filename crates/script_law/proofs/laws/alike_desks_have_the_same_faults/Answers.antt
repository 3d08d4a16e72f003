use Rattle.script_law.proofs.Running.{faults_alike}
use Rattle.script_law.proofs.laws.alike_desks_have_the_same_faults.Goals as goal

pub returns : goal.returns
returns c = faults_alike
