-- How seats leave one after another.
use Rattle.std.specs.Prelude.{ℕ, ◌≡◌, List, [], ◌∷◌}
use Rattle.domain_audit.specs.acquire_retire.Domains.{DomainState}
use Rattle.domain_audit.specs.acquire_retire.Seats.{SeatState}
use Rattle.domain_audit.specs.slot_store.retiring_stores.Leaving.{Leaves}

-- these seats have left to seat 0, each once and in this order
abbrev pub LeaveInTurn : {P V : Type 0} → (List ℕ → Type 0) → DomainState P → (V → V → V)
    → List (SeatState V) → SeatState V → SeatState V → Type 0
LeaveInTurn fits d joined [] root new = new ≡ root
LeaveInTurn {P} {V} fits d joined (seat ∷ seats) root new =
    (mid : SeatState V) × Leaves fits d joined root seat mid
    × LeaveInTurn fits d joined seats mid new
