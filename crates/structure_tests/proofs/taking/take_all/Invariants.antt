use Rattle.structure_tests.specs.Ready.{IsReady, StandsAs}
use Rattle.structure_tests.proofs.taking.take_all.Given as goal

abbrev pub invariant-loop-turn : goal.invariant-loop-turn
invariant-loop-turn g l = IsReady l.domain l.seat × StandsAs l.fn.seat l.seat
