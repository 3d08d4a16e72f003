use Rattle.structure_tests.specs.Ready.{IsReady, StandsAs}
use Rattle.structure_tests.proofs.sending.send_at_last.Given as goal

abbrev pub invariant-loop-try : goal.invariant-loop-try
invariant-loop-try g l = IsReady l.domain l.seat × StandsAs l.fn.seat l.seat
