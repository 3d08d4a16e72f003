use Rattle.lane_files.proofs.Missing.{lane_missed}
use Rattle.lane_files.proofs.laws.full_lanes_have_missed.Goals as goal

pub returns : goal.returns
returns c = λ d work stop old new before after stops.
    lane_missed _ d work stop old new before after stops
