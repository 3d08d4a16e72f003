use Rattle.lane_files.proofs.Enough.{never_spent}
use Rattle.lane_files.proofs.laws.lanes_have_makes.Goals as goal

pub returns : goal.returns
returns c = λ d work stop old new before after enough has stops.
    never_spent _ d work stop old new before after enough has stops
