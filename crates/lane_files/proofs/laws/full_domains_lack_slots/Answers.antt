use Rattle.lane_files.proofs.Enough.{more_makes}
use Rattle.lane_files.proofs.laws.full_domains_lack_slots.Goals as goal

pub returns : goal.returns
returns c = λ d work stop old new before after stops.
    more_makes _ d work stop old new before after stops
