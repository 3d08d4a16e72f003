use Rattle.std.proofs.Common.{◌≡◌}
use Rattle.core_tests.proofs.random_events.walk.Given as goal

abbrev pub invariant-loop-try : goal.invariant-loop-try
invariant-loop-try g l = l.core.shape ≡ l.initial.core.shape
