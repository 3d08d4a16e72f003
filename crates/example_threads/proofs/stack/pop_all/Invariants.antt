use Rattle.example_threads.specs.Free.{IsFree}
use Rattle.example_threads.proofs.stack.pop_all.Given as goal

abbrev pub invariant-loop-turn : goal.invariant-loop-turn
invariant-loop-turn g l = IsFree l.domain l.seat
