use Rattle.words_law.proofs.laws.each_part_keeps_the_law.Goals as goal
use Rattle.words_law.proofs.Parts.{queue_rest, directory_rest}

pub returns : goal.returns
returns c = record { queue = queue_rest; directory = directory_rest }
