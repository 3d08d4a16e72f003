use Rattle.epoch_refs.proofs.Opened.{joined_first, joined_free}
use Rattle.epoch_refs.proofs.life.e_leave.Goals as goal

pub returns-clause-root : goal.returns-clause-root
returns-clause-root g c = joined_first c.leave.ensures c.requires.root

pub returns-clause-free : goal.returns-clause-free
returns-clause-free g c free = joined_free c.leave.ensures free
