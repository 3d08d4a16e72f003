use Rattle.words_law.specs.Views.{directories}
use Rattle.words_law.proofs.Alive.{alive_bound, alive_once, alive_word}
use Rattle.words_law.proofs.promises.living_items_are_records.Goals as goal

pub returns : goal.returns
returns c = record {
  bound = λ u z p views law. alive_bound z p (directories views) law.both.1;
  one = λ u z p views law. alive_once z p (directories views) law.both.1;
  words = λ u z p views meets fit.
      alive_word p meets.lawful fit z (directories views) meets.law.both.1;
}
