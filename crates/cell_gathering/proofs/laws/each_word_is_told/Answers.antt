use Rattle.cell_gathering.proofs.Told.{word_is_told}
use Rattle.cell_gathering.proofs.laws.each_word_is_told.Goals as goal

pub returns : goal.returns
returns c = word_is_told
