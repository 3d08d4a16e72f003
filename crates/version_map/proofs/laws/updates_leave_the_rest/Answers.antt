use Rattle.version_map.proofs.Retries.{last_leaves, one_leaves, some_then}
use Rattle.version_map.proofs.laws.updates_leave_the_rest.Goals as goal

pub returns-clause-one : goal.returns-clause-one
returns-clause-one c = one_leaves

pub returns-clause-last : goal.returns-clause-last
returns-clause-last c = last_leaves

pub returns-clause-more : goal.returns-clause-more
returns-clause-more c = some_then
