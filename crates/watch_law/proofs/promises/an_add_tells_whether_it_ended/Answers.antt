use Rattle.watch_law.proofs.promises.an_add_tells_whether_it_ended.Goals as goal
use Rattle.watch_law.proofs.Gives.{add_succeeds, dead_has_none}

pub returns : goal.returns
returns c = record { up = add_succeeds; dead = dead_has_none }
