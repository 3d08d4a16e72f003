use Rattle.epoch_core.proofs.Keeps as lemma
use Rattle.epoch_core.proofs.laws.epoch_history_is_sound.Goals as goal

pub returns : goal.returns
returns c = lemma.history_sound
