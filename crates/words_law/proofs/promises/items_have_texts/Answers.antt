use Rattle.words_law.proofs.promises.items_have_texts.Goals as goal
use Rattle.words_law.proofs.Texts.{has_one, known_has}
use Rattle.words_law.specs.Views.{directories}

pub returns : goal.returns
returns c = record {
  pushed = λ u z p views law x was.
      let text = law.items x was in
      has_one z p (directories views) law.both.1 x text.0 text.1;
  known = λ u z p views law n x text knows.
      let has = known_has z p (directories views) law.both.1 x n text knows in
      (has, has_one z p (directories views) law.both.1 x text has);
}
