use Rattle.cell_law.proofs.turns.walks_go_on.Goals as goal
use Rattle.cell_law.proofs.InTurn.{walk_begins, walk_further, walk_stays, walk_differs}

pub returns : goal.returns
returns c = record {
  begins = walk_begins;
  further = walk_further;
  stays = walk_stays;
  differs = walk_differs;
}
