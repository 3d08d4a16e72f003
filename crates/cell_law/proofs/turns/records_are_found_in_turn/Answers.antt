use Rattle.cell_law.proofs.turns.records_are_found_in_turn.Goals as goal
use Rattle.cell_law.proofs.InTurn.{read_follows_look, read_follows_read, find_follows}

pub returns : goal.returns
returns c = record {
  reads = read_follows_look;
  reads_on = read_follows_read;
  finds = find_follows;
}
