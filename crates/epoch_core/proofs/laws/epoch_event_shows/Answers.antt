use Rattle.epoch_core.proofs.ShownEvents as lemma
use Rattle.epoch_core.proofs.laws.epoch_event_shows.Goals as goal

pub returns : goal.returns
returns c = lemma.event_shows
