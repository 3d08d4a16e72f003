use Rattle.std.specs.Prelude.{◌≡◌, All}
use Rattle.structure_tests.specs.Ready.{IsFree, IsReady}
use Rattle.structure_tests.proofs.tests_threads.leave_all.Given as goal

abbrev pub invariant-loop-seat : goal.invariant-loop-seat
invariant-loop-seat l =
    IsReady l.domain l.root × (l.root.view.core.seat ≡ 0)
    × (l.root.view.client.0.stand.laid ≡ 2) × All (λ d. IsFree l.domain d.seat) l.done.items
