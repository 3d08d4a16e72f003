use Rattle.cell_law.proofs.promises.null_cell_means_absent.Goals as goal
use Rattle.cell_law.proofs.Gives.{absent}

pub returns : goal.returns
returns c = absent
