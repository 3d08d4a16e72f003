use Rattle.core_law.proofs.Always as lemma
use Rattle.core_law.proofs.laws.step_keeps.Goals as goal

pub returns : goal.returns
returns c = lemma.step_keeps
