use Rattle.words_law.proofs.laws.others_keep_the_law.Goals as goal
use Rattle.words_law.proofs.Law.{words_start, words_calm, words_foreign, words_leave}

pub returns : goal.returns
returns c = record {
  start = words_start;
  calm = words_calm;
  foreign = words_foreign;
  leave = words_leave;
}
