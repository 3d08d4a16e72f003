use Rattle.words_rest.proofs.KeptWords.{kept_words}
use Rattle.words_rest.proofs.kept.words_of_kept_are_those_of_files.Goals as goal

pub returns : goal.returns
returns c = kept_words
