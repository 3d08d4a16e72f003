use Rattle.words_rest.proofs.KeptWords.{kept_one, kept_word_is}
use Rattle.words_rest.proofs.kept.one_word_one_slot.Goals as goal

pub returns : goal.returns
returns c = record { word = kept_word_is; slot = kept_one }
