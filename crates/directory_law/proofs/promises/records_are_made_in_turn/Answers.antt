use Rattle.directory_law.proofs.InTurn.{link_follows, bind_follows}
use Rattle.directory_law.proofs.promises.records_are_made_in_turn.Goals as goal

pub returns : goal.returns
returns c = record {
  links = link_follows;
  binds = bind_follows;
}
