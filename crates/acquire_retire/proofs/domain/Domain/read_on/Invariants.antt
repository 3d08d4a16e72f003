use Rattle.std.proofs.Common.{◌≡◌, ℕ, ◌+◌, List, length}
use Rattle.acquire_retire.specs.Collecting.{Reads}
use Rattle.acquire_retire.proofs.domain.Domain.read_on.Given as goal

abbrev pub invariant-loop-place : goal.invariant-loop-place
invariant-loop-place g l =
    (seen : List ℕ) × (length seen + 1 ≡ l.place) × Reads g.P.Kind.PayloadKind.fits l.self seen l.fn.seat l.seat
