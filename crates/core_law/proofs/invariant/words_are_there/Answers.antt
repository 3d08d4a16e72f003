use Rattle.core_law.proofs.invariant.words_are_there.Goals as goal
use Rattle.core_law.proofs.InRange.{place_in}

pub returns : goal.returns
returns c = place_in
