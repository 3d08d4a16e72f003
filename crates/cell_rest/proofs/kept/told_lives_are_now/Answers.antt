use Rattle.cell_rest.proofs.Told.{told_now}
use Rattle.cell_rest.proofs.kept.told_lives_are_now.Goals as goal

pub returns : goal.returns
returns c = told_now
