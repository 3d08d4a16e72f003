use Rattle.sticky_count.proofs.Walks.{trail_run}
use Rattle.sticky_count.proofs.laws.trails_are_events.Goals as goal

pub returns : goal.returns
returns c = trail_run
