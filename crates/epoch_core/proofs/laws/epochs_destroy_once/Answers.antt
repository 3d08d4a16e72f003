use Rattle.epoch_core.proofs.Destroys as lemma
use Rattle.epoch_core.proofs.laws.epochs_destroy_once.Goals as goal

pub returns : goal.returns
returns c = λ z qs es c' s shape quotas h hs. lemma.destroyed_once z s hs qs es c' shape quotas h
