use Rattle.record_counts.proofs.Lengths.{text_many, text_weighs}
use Rattle.record_counts.proofs.Pieces.{pieces_full}
use Rattle.record_counts.proofs.texts.words_take_slots.Goals as goal

pub returns : goal.returns
returns c = record {
  slots = λ text is are. text_many text is (pieces_full text are);
  bytes = λ text is are. text_weighs text is (pieces_full text are);
}
