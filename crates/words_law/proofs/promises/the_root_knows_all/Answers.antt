use Rattle.words_law.proofs.promises.the_root_knows_all.Goals as goal
use Rattle.words_law.proofs.Root.{root_has, root_texts, root_knows, shut_agree}

pub returns : goal.returns
returns c = record {
  lists = root_has;
  texts = root_texts;
  known = root_knows;
  words = shut_agree;
}
