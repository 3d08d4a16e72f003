use Rattle.cell_law.proofs.promises.what_lives_is_owned.Goals as goal
use Rattle.cell_law.proofs.Rest.{lives_owned, nothing_lives}

pub returns-clause-owned : goal.returns-clause-owned
returns-clause-owned c = lives_owned

pub returns-clause-none : goal.returns-clause-none
returns-clause-none c = nothing_lives
