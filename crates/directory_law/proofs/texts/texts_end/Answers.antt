use Rattle.directory_law.proofs.Ends.{short_text, text_ends}
use Rattle.directory_law.proofs.texts.texts_end.Goals as goal

pub returns : goal.returns
returns c = record {
  short = short_text;
  whole = text_ends;
}
