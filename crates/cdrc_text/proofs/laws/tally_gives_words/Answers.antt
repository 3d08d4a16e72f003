use Rattle.cdrc_text.proofs.Listed.{words-listed}
use Rattle.cdrc_text.proofs.laws.tally_gives_words.Goals as goal

pub returns : goal.returns
returns c = words-listed
