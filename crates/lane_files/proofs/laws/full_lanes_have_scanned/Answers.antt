use Rattle.lane_files.proofs.Pushed.{full_scanned}
use Rattle.lane_files.proofs.laws.full_lanes_have_scanned.Goals as goal

pub returns : goal.returns
returns c = λ d work stop old new before after none stops.
    full_scanned _ d work stop old new before after none stops
