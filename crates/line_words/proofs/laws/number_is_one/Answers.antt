use Rattle.line_words.proofs.Decimal.{one-number_of}
use Rattle.line_words.proofs.laws.number_is_one.Goals as goal

pub returns : goal.returns
returns c = one-number_of
