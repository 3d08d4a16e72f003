use Rattle.number_text.proofs.Unique.{same-index}
use Rattle.number_text.proofs.laws.index_is_one.Goals as goal

pub returns : goal.returns
returns c = same-index
