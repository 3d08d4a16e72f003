use Rattle.map_life.specs.version_map.Playing.{Plays}
use Rattle.map_tests.proofs.tests.first_difference.Given as goal

abbrev pub invariant-loop-index : goal.invariant-loop-index
invariant-loop-index g l = Plays l.domain l.seat
