use Rattle.std.proofs.Common.{refl}
use Rattle.cdrc_run.proofs.ending.refused_end.Goals as goal

pub returns-in-Full : goal.returns-in-Full
returns-in-Full c = rw c.in-Full.is (refl, c.seat_evidence.ensures)

pub returns-in-Spent : goal.returns-in-Spent
returns-in-Spent c = rw c.in-Spent.is (refl, c.seat_evidence-in-Spent.ensures)
