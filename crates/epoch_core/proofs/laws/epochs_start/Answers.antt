use Rattle.epoch_core.proofs.Starts as lemma
use Rattle.epoch_core.proofs.laws.epochs_start.Goals as goal

pub returns : goal.returns
returns c = lemma.start_sound
