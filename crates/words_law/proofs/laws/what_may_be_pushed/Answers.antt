use Rattle.words_law.proofs.laws.what_may_be_pushed.Goals as goal
use Rattle.words_law.proofs.Parts.{none_suits, push_suits, seen_may_push, bound_may_push, may_push_stays}

pub returns : goal.returns
returns c = record {
  nothing = none_suits;
  one = push_suits;
  seen = seen_may_push;
  bound = bound_may_push;
  kept = λ v w x may. may;
  stays = may_push_stays;
}
