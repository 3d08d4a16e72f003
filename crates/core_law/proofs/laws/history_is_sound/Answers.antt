use Rattle.core_law.proofs.Always as lemma
use Rattle.core_law.proofs.laws.history_is_sound.Goals as goal

pub returns : goal.returns
returns c = lemma.history_sound
