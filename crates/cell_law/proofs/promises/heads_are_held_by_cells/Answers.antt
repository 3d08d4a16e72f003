use Rattle.cell_law.proofs.promises.heads_are_held_by_cells.Goals as goal
use Rattle.cell_law.proofs.Held.{held_by_cells, held_once}

pub returns-clause-references : goal.returns-clause-references
returns-clause-references c = held_by_cells

pub returns-clause-cell : goal.returns-clause-cell
returns-clause-cell c = held_once
