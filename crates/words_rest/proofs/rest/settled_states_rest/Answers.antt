use Rattle.words_rest.proofs.Settled.{settled_rests}
use Rattle.words_rest.proofs.rest.settled_states_rest.Goals as goal

pub returns : goal.returns
returns c = settled_rests
