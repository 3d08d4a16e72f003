use Rattle.std.proofs.Common.{ap}
use Rattle.std.specs.Prelude.{slice_index}
use Rattle.weak_watch.proofs.Made.{observer_ready}
use Rattle.weak_watch.proofs.making.make_observer.Goals as goal

pub make-requires-clause-deed : goal.make-requires-clause-deed
make-requires-clause-deed c s mid begins w =
    observer_ready _ _ c.payload_with-payload.result s _ mid begins mid.view.client
    (ap (λ ws. slice_index ws 0) c.payload_with-payload.ensures)
