use Rattle.core_law.proofs.Always as lemma
use Rattle.core_law.proofs.laws.always_good.Goals as goal

pub returns : goal.returns
returns c = lemma.always_good
