use Rattle.example_stack.specs.Calls.{HasNode}
use Rattle.std.specs.Prelude.{⊤}
use Rattle.example_threads.specs.Free.{IsFree}
use Rattle.example_threads.proofs.stack.push.Given as goal

abbrev pub invariant-loop-try : goal.invariant-loop-try
invariant-loop-try g l = IsFree l.domain l.seat × HasNode (λ words. ⊤) l.node.slot l.seat
