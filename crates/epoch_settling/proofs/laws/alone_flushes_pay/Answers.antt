use Rattle.epoch_settling.proofs.Paying.{no_later, once, twice}
use Rattle.epoch_settling.proofs.laws.alone_flushes_pay.Goals as goal

pub returns-clause-once : goal.returns-clause-once
returns-clause-once g c = once _ _

pub returns-clause-dates : goal.returns-clause-dates
returns-clause-dates g c = no_later _ _

pub returns-clause-twice : goal.returns-clause-twice
returns-clause-twice g c = twice _ _
