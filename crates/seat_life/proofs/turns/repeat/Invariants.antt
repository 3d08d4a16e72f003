use Rattle.std.specs.Prelude.{◌≤◌}
use Rattle.seat_life.specs.Free.{IsFree}
use Rattle.seat_life.proofs.turns.repeat.Given as goal

abbrev pub invariant-loop-number : goal.invariant-loop-number
invariant-loop-number g l = IsFree l.domain l.seat × (l.count ≤ l.number)
