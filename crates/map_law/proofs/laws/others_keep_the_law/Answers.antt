use Rattle.map_law.proofs.laws.others_keep_the_law.Goals as goal
use Rattle.map_law.proofs.Start.{starts}
use Rattle.map_law.proofs.Leave.{leave_keeps}
use Rattle.map_law.proofs.Others.{calm_keeps, foreign_keeps}

pub returns-clause-start : goal.returns-clause-start
returns-clause-start c = starts

pub returns-clause-calm : goal.returns-clause-calm
returns-clause-calm c = calm_keeps

pub returns-clause-foreign : goal.returns-clause-foreign
returns-clause-foreign c = foreign_keeps

pub returns-clause-leave : goal.returns-clause-leave
returns-clause-leave c = leave_keeps
