use Rattle.cell_rest.proofs.Settled.{rests_settled}
use Rattle.cell_rest.proofs.rest.states_at_rest_are_settled.Goals as goal

pub returns : goal.returns
returns c = rests_settled
