use Rattle.watch_law.proofs.turns.a_pop_may_read_its_item.Goals as goal
use Rattle.watch_law.proofs.InTurn.{pop_reads}

pub returns : goal.returns
returns c = pop_reads
