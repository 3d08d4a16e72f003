use Rattle.cell_law.proofs.promises.grants_bound_heads.Goals as goal
use Rattle.cell_law.proofs.Shares.{alone_bound, fewer_listed, has_room, not_more_listed}

pub returns : goal.returns
returns c = record {
  few = not_more_listed;
  fewer = fewer_listed;
  room = has_room;
  alone = alone_bound;
}
