use Rattle.watch_law.proofs.laws.deeds_keep_addresses.Goals as goal
use Rattle.watch_law.proofs.InTurn.{address_keeps_all, joined_keeps_root, joined_keeps_leaver, read_keeps_all}

pub returns : goal.returns
returns c = record {
  observer = λ v own after step found a has. has;
  delivery = λ v own after step found a has. has;
  subscribe = λ v own after step found c s a has. has;
  address = address_keeps_all;
  find = λ v own after step found a has. has;
  read = read_keeps_all;
  root = joined_keeps_root;
  leaver = joined_keeps_leaver;
}
