use Rattle.cdrc_text.proofs.Unique.{same-text}
use Rattle.cdrc_text.proofs.laws.text_is_one.Goals as goal

pub returns : goal.returns
returns c = same-text
