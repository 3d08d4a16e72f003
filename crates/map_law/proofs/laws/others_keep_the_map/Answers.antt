use Rattle.map_law.proofs.laws.others_keep_the_map.Goals as goal
use Rattle.map_law.proofs.Leave.{leave_keeps_map}
use Rattle.map_law.proofs.Others.{calm_map, foreign_map}

pub returns-clause-calm : goal.returns-clause-calm
returns-clause-calm c = calm_map

pub returns-clause-foreign : goal.returns-clause-foreign
returns-clause-foreign c = foreign_map

pub returns-clause-leave : goal.returns-clause-leave
returns-clause-leave c = leave_keeps_map
