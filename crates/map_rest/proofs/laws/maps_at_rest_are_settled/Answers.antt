use Rattle.map_rest.proofs.Settled.{settled}
use Rattle.map_rest.proofs.laws.maps_at_rest_are_settled.Goals as goal

pub returns : goal.returns
returns c = settled
