use Rattle.cell_law.proofs.promises.one_head_one_word.Goals as goal
use Rattle.cell_law.proofs.Distinct.{one_head}
use Rattle.cell_law.proofs.Stands.{life_text}

pub returns-clause-head : goal.returns-clause-head
returns-clause-head c = one_head

pub returns-clause-text : goal.returns-clause-text
returns-clause-text c = life_text
