use Rattle.directory_law.proofs.Gives.{bound_live, none_live}
use Rattle.directory_law.proofs.promises.live_where_bound.Goals as goal

pub returns : goal.returns
returns c = record {
  bound = bound_live;
  none = none_live;
}
