use Rattle.watch_law.proofs.laws.each_part_keeps_the_law.Goals as goal
use Rattle.watch_law.proofs.Parts.{queue_rest, watch_rest}

pub returns : goal.returns
returns c = record { queue = queue_rest; observers = watch_rest }
