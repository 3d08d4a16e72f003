use Rattle.std.specs.Prelude.{◌≡◌}
use Rattle.weak_watch.specs.Keeping.{Keeps}
use Rattle.weak_watch.specs.Subjects.{IsReady}
use Rattle.weak_watch.proofs.finding.find.Given as goal

abbrev pub invariant-loop-try : goal.invariant-loop-try
invariant-loop-try g l =
    IsReady l.domain l.subject l.seat × (l.seat.view.client ≡ l.fn.seat.view.client)
    × Keeps 0 0 l.fn.seat.view.core.owned l.fn.seat.view.core.weaks l.fn.seat l.seat
