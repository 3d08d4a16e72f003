use Rattle.watch_law.proofs.promises.pushed_deliveries_have_observers.Goals as goal
use Rattle.watch_law.proofs.Sent.{pushed_has, one_observer, pushed_is_to}

pub returns : goal.returns
returns c = record { has = pushed_has; one = one_observer; lives = pushed_is_to }
