use Rattle.example_threads.specs.Free.{IsFree}
use Rattle.example_threads.proofs.stack.push_all.Given as goal

abbrev pub invariant-loop-number : goal.invariant-loop-number
invariant-loop-number g l = IsFree l.domain l.seat
