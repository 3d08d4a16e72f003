use Rattle.number_text.proofs.Indexed.{index-told}
use Rattle.number_text.proofs.laws.counts_give_index.Goals as goal

pub returns : goal.returns
returns c = index-told
