use Rattle.example_threads.specs.Free.{IsFree}
use Rattle.example_threads.proofs.cache.work.Given as goal

abbrev pub invariant-loop-number : goal.invariant-loop-number
invariant-loop-number l = IsFree l.domain l.seat
