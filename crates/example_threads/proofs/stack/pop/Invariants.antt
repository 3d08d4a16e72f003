use Rattle.example_threads.specs.Free.{IsFree}
use Rattle.example_threads.proofs.stack.pop.Given as goal

abbrev pub invariant-loop-try : goal.invariant-loop-try
invariant-loop-try g l = IsFree l.domain l.seat
