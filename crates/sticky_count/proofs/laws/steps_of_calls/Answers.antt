use Rattle.sticky_count.proofs.Walks.{steps_increment, steps_decrement, steps_read}
use Rattle.sticky_count.proofs.laws.steps_of_calls.Goals as goal

pub returns-clause-increment : goal.returns-clause-increment
returns-clause-increment c = steps_increment

pub returns-clause-decrement : goal.returns-clause-decrement
returns-clause-decrement c = steps_decrement

pub returns-clause-read : goal.returns-clause-read
returns-clause-read c = steps_read
