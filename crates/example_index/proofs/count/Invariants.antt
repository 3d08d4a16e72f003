use Rattle.cdrc.specs.version_map.Playing.{Plays}
use Rattle.example_index.proofs.count.Given as goal

abbrev pub invariant-loop-index : goal.invariant-loop-index
invariant-loop-index g l = Plays l.domain l.seat
