use Rattle.map_life.specs.version_map.Playing.{Plays}
use Rattle.map_tests.proofs.tests_spent.fill.Given as goal

abbrev pub invariant-loop-key : goal.invariant-loop-key
invariant-loop-key g l = Plays l.domain l.seat
