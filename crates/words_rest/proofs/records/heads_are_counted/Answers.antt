use Rattle.words_rest.proofs.Heads.{owned_bound, slot_word}
use Rattle.words_rest.proofs.Living.{head_counted}
use Rattle.words_rest.proofs.records.heads_are_counted.Goals as goal

pub returns : goal.returns
returns c = record {
  bound = λ u z p views meets left.
      owned_bound z p views meets.lawful meets.law.both.1 left;
  counts = λ u z p views meets fit left none.
      head_counted z p views meets.lawful meets.law.both.1 fit left none;
  words = slot_word;
}
