use Rattle.cdrc_scripts.proofs.OneOutput.{scripts_write_one}
use Rattle.cdrc_scripts.proofs.laws.scripts_have_one_output.Goals as goal

pub returns : goal.returns
returns c = scripts_write_one
