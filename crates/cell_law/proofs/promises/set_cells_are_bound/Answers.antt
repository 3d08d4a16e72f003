use Rattle.cell_law.proofs.promises.set_cells_are_bound.Goals as goal
use Rattle.cell_law.proofs.Gives.{cells_bound, keeps_text}
use Rattle.cell_law.proofs.Distinct.{texts_and_words}

pub returns-clause-cells : goal.returns-clause-cells
returns-clause-cells c = cells_bound

pub returns-clause-distinct : goal.returns-clause-distinct
returns-clause-distinct c = texts_and_words

pub returns-clause-texts : goal.returns-clause-texts
returns-clause-texts c = keeps_text
