-- A seat between its calls.
use Rattle.std.specs.Prelude.{◌≡◌, []}
use Rattle.domain_audit.specs.plain_state.declared.slot.SlotId.{SlotId}
use Rattle.domain_audit.specs.plain_state.Lists.{times}
use Rattle.domain_audit.specs.core_events.declared.view.CoreView.{CoreView}
use Rattle.domain_audit.specs.core_events.Steps.{HasRoom}
use Rattle.domain_audit.specs.core_events.Views.{no_notes}
use Rattle.domain_audit.specs.acquire_retire.Domains.{DomainState}
use Rattle.domain_audit.specs.acquire_retire.Seats.{SeatState}
use Rattle.domain_audit.specs.control_word.Resting.{IsAtRest}

-- It is one of the domain's and in no call, announces nothing and so is under no snapshot, and has room for what a
-- store retires: it may begin any call, and it may leave.
pub record IsFree {P V : Type 0} (d : DomainState P) (s : SeatState V) : Type 0 where
  pub rest : IsAtRest d s
  pub notes : s.view.core.notes ≡ no_notes
  pub room : HasRoom s.view.core

-- it owns no reference, strong or weak
abbrev pub OwnsNothing : CoreView → Type 0
OwnsNothing v = (v.owned ≡ []) × (v.weaks ≡ [])

-- it owns the references that it owned
abbrev pub OwnsTheSame : {V : Type 0} → SeatState V → SeatState V → Type 0
OwnsTheSame old new =
    (new.view.core.owned ≡ old.view.core.owned) × (new.view.core.weaks ≡ old.view.core.weaks)

-- it owns each slot as often as before, strongly and weakly
abbrev pub OwnsAsMuch : {V : Type 0} → SeatState V → SeatState V → Type 0
OwnsAsMuch old new =
    ((s : SlotId) → times s new.view.core.owned ≡ times s old.view.core.owned)
    × (new.view.core.weaks ≡ old.view.core.weaks)

-- it is the same seat, and as many have left to it
abbrev pub IsSameSeat : {V : Type 0} → SeatState V → SeatState V → Type 0
IsSameSeat old new =
    (new.view.core.seat ≡ old.view.core.seat)
    × (new.view.core.left_seats ≡ old.view.core.left_seats)

-- it is seat 0, to which the others leave
abbrev pub IsRoot : {P V : Type 0} → DomainState P → SeatState V → Type 0
IsRoot d s = IsFree d s × (s.view.core.seat ≡ 0)
