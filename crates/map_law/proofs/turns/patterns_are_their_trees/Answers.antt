use Rattle.map_law.proofs.turns.patterns_are_their_trees.Goals as goal
use Rattle.map_law.proofs.Plans.{height_is, look_is, seek_is, joins_is}
use Rattle.map_law.proofs.Gives.{is_change_of}

pub returns-clause-height : goal.returns-clause-height
returns-clause-height c = height_is

pub returns-clause-look : goal.returns-clause-look
returns-clause-look c = look_is

pub returns-clause-seek : goal.returns-clause-seek
returns-clause-seek c = seek_is

pub returns-clause-joins : goal.returns-clause-joins
returns-clause-joins c = joins_is

pub returns-clause-change : goal.returns-clause-change
returns-clause-change c = is_change_of
