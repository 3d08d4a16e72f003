use Rattle.core_law.proofs.Told as lemma
use Rattle.core_law.proofs.shown.counts_are_shown.Goals as goal

pub returns : goal.returns
returns c = lemma.counts_shown
