use Rattle.epoch_core.proofs.Parts as lemma
use Rattle.epoch_core.proofs.laws.epoch_sound_is_good.Goals as goal

pub returns : goal.returns
returns c = lemma.sound_good
