use Rattle.core_promises.proofs.Always.{always_shows}
use Rattle.core_promises.proofs.laws.always_shows.Goals as goal

pub returns : goal.returns
returns c = always_shows
