use Rattle.words_rest.proofs.KeptWords.{kept_heads, kept_told}
use Rattle.words_rest.proofs.kept.kept_references_are_heads.Goals as goal

pub returns : goal.returns
returns c = record { heads = kept_heads; told = kept_told }
