use Rattle.words_law.proofs.promises.known_texts_stay.Goals as goal
use Rattle.words_law.proofs.Known.{knows_more, knows_all_more, knows_both, joined_knows}

pub returns : goal.returns
returns c = record {
  one = knows_more;
  all = knows_all_more;
  more = knows_both;
  joined = joined_knows;
}
