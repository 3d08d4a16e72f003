use Rattle.words_law.specs.Views.{directories}
use Rattle.words_law.proofs.Living.{slots_counted}
use Rattle.words_law.proofs.promises.slots_tell_words.Goals as goal

pub returns : goal.returns
returns c u z p views meets fit =
    slots_counted z p (directories views) meets.lawful fit meets.law.both.1
