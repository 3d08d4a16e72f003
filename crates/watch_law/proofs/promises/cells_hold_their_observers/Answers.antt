use Rattle.watch_law.proofs.promises.cells_hold_their_observers.Goals as goal
use Rattle.watch_law.proofs.Cells.{cell_observer, cell_last, cell_null}

pub returns : goal.returns
returns c = record {
  observer = cell_observer;
  last = cell_last;
  null = cell_null;
}
