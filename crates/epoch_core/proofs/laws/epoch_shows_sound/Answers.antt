use Rattle.epoch_core.proofs.Lawful as lemma
use Rattle.epoch_core.proofs.laws.epoch_shows_sound.Goals as goal

pub returns : goal.returns
returns c = lemma.shows_sound
