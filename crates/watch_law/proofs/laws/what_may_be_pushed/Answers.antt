use Rattle.watch_law.proofs.laws.what_may_be_pushed.Goals as goal
use Rattle.watch_law.proofs.Parts.{none_suits, push_suits}
use Rattle.watch_law.proofs.InTurn.{addressed_may, kept_may, stays_may}

pub returns : goal.returns
returns c = record {
  nothing = none_suits;
  one = push_suits;
  addressed = addressed_may;
  kept = kept_may;
  stays = stays_may;
}
