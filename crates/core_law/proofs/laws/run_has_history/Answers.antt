use Rattle.core_law.proofs.Always as lemma
use Rattle.core_law.proofs.laws.run_has_history.Goals as goal

pub returns : goal.returns
returns c = lemma.run_has_history
