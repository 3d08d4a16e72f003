use Rattle.script_law.proofs.Running.{runs_orderly}
use Rattle.script_law.proofs.laws.orderly_desks_stay_orderly.Goals as goal

pub returns : goal.returns
returns c = runs_orderly
