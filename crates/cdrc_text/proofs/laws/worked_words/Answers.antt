use Rattle.std.proofs.Common.{refl}
use Rattle.std.specs.Fmt.{digits}
use Rattle.cdrc_text.specs.Generated.{draw, generated_text}
use Rattle.cdrc_text.proofs.laws.worked_words.Goals as goal

pub returns-clause-two : goal.returns-clause-two
unfolding digits generated_text draw
returns-clause-two c = refl

pub returns-clause-eleven : goal.returns-clause-eleven
unfolding digits generated_text draw
returns-clause-eleven c = refl

pub returns-clause-none : goal.returns-clause-none
unfolding digits generated_text draw
returns-clause-none c = refl
