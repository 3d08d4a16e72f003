use Rattle.epoch_core.proofs.Keeps as lemma
use Rattle.epoch_core.proofs.laws.epoch_step_keeps.Goals as goal

pub returns : goal.returns
returns c = lemma.step_keeps
