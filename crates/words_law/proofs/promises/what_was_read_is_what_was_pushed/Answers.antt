use Rattle.words_law.proofs.promises.what_was_read_is_what_was_pushed.Goals as goal
use Rattle.words_law.proofs.Root.{root_words, told_agree, all_counted}

pub returns : goal.returns
returns c = record { words = root_words; even = told_agree; occurrences = all_counted }
