use Rattle.epoch_core.proofs.Alone as lemma
use Rattle.epoch_core.proofs.laws.epoch_alone_flushes.Goals as goal

pub returns-clause-once : goal.returns-clause-once
returns-clause-once c = lemma.flush_advances

pub returns-clause-twice : goal.returns-clause-twice
returns-clause-twice c = lemma.all_due
