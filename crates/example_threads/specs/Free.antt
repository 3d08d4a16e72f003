-- A seat that may begin any call, and that may leave.
use Rattle.std.specs.Prelude.{◌≡◌}
use Rattle.cdrc.specs.core_events.Steps.{HasRoom}
use Rattle.cdrc.specs.acquire_retire.Domains.{DomainState}
use Rattle.cdrc.specs.acquire_retire.Seats.{SeatState}
use Rattle.cdrc.specs.control_word.Resting.{IsAtRest, IsUnderNone}

-- it is in no call, under no snapshot, and has room for what a store retires
pub record IsFree {P V : Type 0} (d : DomainState P) (s : SeatState V) : Type 0 where
  pub rest : IsAtRest d s
  pub none : IsUnderNone s.view.core
  pub room : HasRoom s.view.core

-- such a seat 0, to which the others leave
abbrev pub IsRoot : {P V : Type 0} → DomainState P → SeatState V → Type 0
IsRoot d s = IsFree d s × (s.view.core.seat ≡ 0)
