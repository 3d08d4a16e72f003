use Rattle.cell_rest.proofs.KeptWords.{words_kept, words_told}
use Rattle.cell_rest.proofs.kept.words_of_kept_are_those_of_files.Goals as goal

pub returns : goal.returns
returns c = record { told = words_told; words = words_kept }
