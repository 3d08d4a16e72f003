use Rattle.words_rest.proofs.KeptWords.{kept_counted, refs_counted}
use Rattle.words_rest.proofs.kept.kept_references_count_files.Goals as goal

pub returns : goal.returns
returns c = record { counts = kept_counted; refs = refs_counted }
