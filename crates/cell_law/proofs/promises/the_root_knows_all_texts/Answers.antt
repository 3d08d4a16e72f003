use Rattle.cell_law.proofs.promises.the_root_knows_all_texts.Goals as goal
use Rattle.cell_law.proofs.Distinct.{root_knows}

pub returns : goal.returns
returns c = root_knows
