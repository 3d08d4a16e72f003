use Rattle.structure_tests.specs.Ready.{IsReady}
use Rattle.structure_tests.proofs.tests_scripts.first_difference.Given as goal

abbrev pub invariant-loop-index : goal.invariant-loop-index
invariant-loop-index g l = IsReady l.domain l.seat
