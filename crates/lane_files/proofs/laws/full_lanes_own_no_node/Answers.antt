use Rattle.lane_files.proofs.Owning.{owns_no_node}
use Rattle.lane_files.proofs.laws.full_lanes_own_no_node.Goals as goal

pub returns : goal.returns
returns c = λ d work stop old new before after nothing weakly stops.
    owns_no_node _ d work stop old new before after nothing weakly stops
