use Rattle.queue_law.proofs.laws.others_keep_the_law.Goals as goal
use Rattle.queue_law.proofs.Whole.{whole_start, whole_calm, whole_foreign, whole_leave}

pub returns-clause-start : goal.returns-clause-start
returns-clause-start c = whole_start

pub returns-clause-calm : goal.returns-clause-calm
returns-clause-calm c = whole_calm

pub returns-clause-foreign : goal.returns-clause-foreign
returns-clause-foreign c = whole_foreign

pub returns-clause-leave : goal.returns-clause-leave
returns-clause-leave c = whole_leave
