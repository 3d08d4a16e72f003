use Rattle.std.proofs.Common.{refl}
use Rattle.cdrc_run.proofs.ending.seat_evidence.Goals as goal

pub returns-in-Words : goal.returns-in-Words
returns-in-Words c = rw c.in-Words.is (c.new.result, refl, c.new.ensures.items)
