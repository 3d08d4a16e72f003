use Rattle.std.specs.Prelude.{All}
use Rattle.example_threads.specs.Free.{IsFree, IsRoot}
use Rattle.example_threads.proofs.domains.leave_all.Given as goal

abbrev pub invariant-loop-seat : goal.invariant-loop-seat
invariant-loop-seat g l = IsRoot l.domain l.root × All (λ d. IsFree l.domain d.0) l.done.items
