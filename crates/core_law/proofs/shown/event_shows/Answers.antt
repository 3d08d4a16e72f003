use Rattle.core_law.proofs.Events as lemma
use Rattle.core_law.proofs.shown.event_shows.Goals as goal

pub returns : goal.returns
returns c = lemma.event_shows
