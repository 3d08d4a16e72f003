use Rattle.version_reading.specs.Reading.{pair_by}
use Rattle.version_reading.proofs.Walking.{Stands}
use Rattle.version_reading.proofs.seeking.seek.Given as goal

abbrev pub invariant-loop-level : goal.invariant-loop-level
invariant-loop-level l =
    Stands l.fn.root l.fn.free l.fn.key l.fn.seat l._level (pair_by l.best) l.at l.held l.seat
