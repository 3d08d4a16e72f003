use Rattle.cdrc_steps.proofs.Definite.{steps_write_one}
use Rattle.cdrc_steps.proofs.laws.steps_write_one.Goals as goal

pub returns : goal.returns
returns c = steps_write_one
