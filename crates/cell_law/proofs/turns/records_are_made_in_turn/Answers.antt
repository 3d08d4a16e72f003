use Rattle.cell_law.proofs.turns.records_are_made_in_turn.Goals as goal
use Rattle.cell_law.proofs.InTurn.{link_follows, bind_follows_make, bind_follows_link, bind_follows_bind}

pub returns : goal.returns
returns c = record {
  links = link_follows;
  binds_one = bind_follows_make;
  binds_two = bind_follows_link;
  binds_again = bind_follows_bind;
}
