-- What a seat of a test has of the one slot of its domain.
use Rattle.std.specs.Prelude.{ℕ, ◌≡◌, ◌≤◌, ◌^◌, ⊤, List, []}
use Rattle.std.proofs.Common.{arith}
use Rattle.counted_handles.specs.plain_state.declared.slot.SlotId.{SlotId}
use Rattle.acquire_retire.specs.core_events.declared.shape.Shape.{Shape}
use Rattle.acquire_retire.specs.core_events.Views.{first_view}
use Rattle.counted_handles.specs.plain_state.Lists.{times}
use Rattle.acquire_retire.specs.Domains.{DomainState}
use Rattle.acquire_retire.specs.Seats.{SeatState}
use Rattle.control_word.specs.Resting.{IsAtRest}

abbrev pub one_slot : Shape
one_slot = record { seats = 1; slots = 1; cells = 0; weak_cells = 0; batch = 1 }

-- seat 0 of a domain of one seat and one slot, which has done nothing, may make one object and use
-- so many adds
abbrev pub IsFresh : {P V : Type 0} → DomainState P → ℕ → SeatState V → Type 0
IsFresh d adds s =
    (d.shape ≡ one_slot) × (s.table ≡ d.table)
    × (s.view.core ≡ first_view d.shape 0 (record { makes = 1; adds = adds }) [])

-- the seat owns n strong references to s and m weak ones
pub record Owns {V : Type 0} (s : SlotId) (n m : ℕ) (seat : SeatState V) : Type 0 where
  pub strong : times s seat.view.core.owned ≡ n
  pub weak : times s seat.view.core.weaks ≡ m

-- it is at rest, and owns the one reference to s that there is
abbrev pub HasBegun : {P V : Type 0} → DomainState P → SlotId → SeatState V → Type 0
HasBegun d s seat = IsAtRest d seat × Owns s 1 0 seat

-- whatever has no weight is light enough
pub weightless : (words : List ℕ) → ⊤ → 0 ≤ 2 ^ 32
weightless words fits = omega arith
