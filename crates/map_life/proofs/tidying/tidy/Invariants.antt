use Rattle.version_map.specs.Playing.{Plays}
use Rattle.map_life.proofs.tidying.tidy.Given as goal

abbrev pub invariant-loop-count : goal.invariant-loop-count
invariant-loop-count l = Plays l.domain l.seat
