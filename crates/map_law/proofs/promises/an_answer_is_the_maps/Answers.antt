use Rattle.map_law.proofs.promises.an_answer_is_the_maps.Goals as goal
use Rattle.map_law.proofs.Gives.{map_get, map_next}

pub returns-clause-get : goal.returns-clause-get
returns-clause-get c = map_get

pub returns-clause-next : goal.returns-clause-next
returns-clause-next c = map_next
