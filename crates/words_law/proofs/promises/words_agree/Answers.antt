use Rattle.words_law.proofs.promises.words_agree.Goals as goal
use Rattle.words_law.proofs.Counts.{words_even, times_of_more}

pub returns : goal.returns
returns c = record { even = words_even; more = times_of_more }
