use Rattle.cell_rest.proofs.KeptWords.{kept_one, kept_told, kept_word_is}
use Rattle.cell_rest.proofs.kept.one_word_one_slot.Goals as goal

pub returns : goal.returns
returns c = record { told = kept_told; word = kept_word_is; slot = kept_one }
