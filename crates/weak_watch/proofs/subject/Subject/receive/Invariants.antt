use Rattle.std.specs.Prelude.{ℕ}
use Rattle.weak_watch.specs.Keeping.{Keeps}
use Rattle.weak_watch.specs.Fates.{CanPublish}
use Rattle.weak_watch.specs.Receiving.{OnlyPasses, OnlyReads}
use Rattle.weak_watch.proofs.subject.Subject.receive.Given as goal

abbrev pub invariant-loop-try : goal.invariant-loop-try
invariant-loop-try g l =
    CanPublish (g.Q.HandQueue.is_on l.queue) l.domain l.self l.seat
    × OnlyPasses l.domain l.fn.seat l.seat
    × OnlyReads l.fn.seat l.seat
    × ((n : ℕ) × Keeps 0 n l.fn.seat.view.core.owned l.fn.seat.view.core.weaks l.fn.seat l.seat)
