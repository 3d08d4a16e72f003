use Rattle.structure_tests.specs.Ready.{IsReady, StandsAs}
use Rattle.structure_tests.proofs.tests_scripts.send_and_take.Given as goal

abbrev pub invariant-loop-number : goal.invariant-loop-number
invariant-loop-number g l = IsReady l.domain l.seat × StandsAs l.fn.seat l.seat
