use Rattle.cell_finding.proofs.Soughts.{sought_word}
use Rattle.cell_finding.proofs.Walking.{cell_is}
use Rattle.cell_finding.proofs.laws.sought_texts_are_words.Goals as goal

pub returns : goal.returns
returns c = record {
  word = sought_word;
  cell = cell_is;
}
