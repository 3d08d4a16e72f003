use Rattle.cell_calls.proofs.laws.calls_keep_in_turn.Goals as goal
use Rattle.cell_calls.proofs.Keeping.{keeps_self, keeps_then, keeps_wider}

pub returns-clause-nothing : goal.returns-clause-nothing
returns-clause-nothing c = keeps_self

pub returns-clause-then : goal.returns-clause-then
returns-clause-then c = keeps_then

pub returns-clause-wider : goal.returns-clause-wider
returns-clause-wider c = keeps_wider
