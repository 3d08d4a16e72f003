use Rattle.std.specs.Prelude.{ℕ, ◌≡◌, ◌*◌, length}
use Rattle.weak_watch.specs.Keeping.{Keeps}
use Rattle.weak_watch.specs.Fates.{CanPublish, Publishes}
use Rattle.weak_watch.specs.Sending.{beside_sending}
use Rattle.weak_watch.proofs.subject.Subject.publish.Given as goal

abbrev pub invariant-loop-id : goal.invariant-loop-id
invariant-loop-id g l =
    CanPublish (g.Q.HandQueue.is_on l.queue) l.domain l.self l.seat
    × (length l.fates ≡ l.self.cells)
    × Publishes l.domain l.event l.id l.fates l.fn.seat l.seat
    × ((n : ℕ) × Keeps (2 * l.id) n l.fn.seat.view.core.owned l.fn.seat.view.core.weaks l.fn.seat
    l.seat)
    × (beside_sending l.seat.view.client.1 ≡ beside_sending l.fn.seat.view.client.1)
