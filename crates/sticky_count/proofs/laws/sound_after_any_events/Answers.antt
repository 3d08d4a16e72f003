use Rattle.sticky_count.proofs.Law.{sound, event_suits}
use Rattle.sticky_count.proofs.laws.sound_after_any_events.Goals as goal

pub returns-clause-sound : goal.returns-clause-sound
returns-clause-sound c = sound

pub returns-clause-suits : goal.returns-clause-suits
returns-clause-suits c = event_suits
