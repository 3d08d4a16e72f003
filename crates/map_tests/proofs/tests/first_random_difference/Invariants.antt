use Rattle.map_life.specs.version_map.Playing.{Plays}
use Rattle.map_tests.proofs.tests.first_random_difference.Given as goal

abbrev pub invariant-loop-turn : goal.invariant-loop-turn
invariant-loop-turn g l = Plays l.domain l.seat
