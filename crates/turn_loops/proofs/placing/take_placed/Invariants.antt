use Rattle.turn_loops.proofs.Placings.{HaveTaken}
use Rattle.turn_loops.proofs.placing.take_placed.Given as goal

abbrev pub invariant-loop-taken : goal.invariant-loop-taken
invariant-loop-taken g l =
    HaveTaken l.placing l.threads l.taken l.fn.seats.items l.workers.items l.seats.items
