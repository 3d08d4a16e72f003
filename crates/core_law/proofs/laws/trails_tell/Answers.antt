use Rattle.core_law.proofs.Trails as lemma
use Rattle.core_law.proofs.laws.trails_tell.Goals as goal

pub returns : goal.returns
returns c = lemma.trails_tell
