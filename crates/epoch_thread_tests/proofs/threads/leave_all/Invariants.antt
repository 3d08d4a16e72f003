use Rattle.std.specs.Prelude.{◌≡◌, All}
use Rattle.epoch_refs.specs.Walks.{IsFree}
use Rattle.epoch_thread_tests.proofs.threads.leave_all.Given as goal

abbrev pub invariant-loop-seat : goal.invariant-loop-seat
invariant-loop-seat l =
    IsFree l.domain l.root × (l.root.view.core.seat ≡ 0)
    × All (λ d. IsFree l.domain d.seat) l.done.items
