-- What a leave does.
use Rattle.std.specs.Prelude.{List, ℕ}
use Rattle.control_word.specs.acquire_retire.Domains.{DomainState}
use Rattle.control_word.specs.acquire_retire.Leavings.{TookOver}
use Rattle.control_word.specs.acquire_retire.Seats.{SeatState}
use Rattle.retiring_stores.specs.Scanning.{ScansWhereDue}

-- seat 0 has taken over what the seat had, and then collected where that was due
pub record Leaves {P V : Type 0} (fits : List ℕ → Type 0) (d : DomainState P)
    (joined : V → V → V) (root seat new : SeatState V) : Type 0 where
  pub mid : SeatState V
  pub took : TookOver d fits joined root seat mid
  pub scans : ScansWhereDue fits d mid new
