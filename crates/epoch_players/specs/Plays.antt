-- What a seat has before and after each act of a script, and when it is as one that was just opened.
use Rattle.std.specs.Prelude.{◌≡◌, ◌≤◌, Bool, true, false, List}
use Rattle.epoch_refs.specs.plain_protocol.plain_state.declared.slot.SlotId.{SlotId}
use Rattle.epoch_refs.specs.plain_protocol.plain_state.Lists.{times}
use Rattle.epoch_refs.specs.epoch_core.Views.{IsInside}
use Rattle.epoch_refs.specs.epoch_domain.Domains.{DomainState}
use Rattle.epoch_refs.specs.epoch_domain.Seats.{SeatState}
use Rattle.epoch_refs.specs.Walks.{IsAtRest}

-- each slot stands at most as often in the one list as in the other
abbrev pub IsWithin : List SlotId → List SlotId → Type 0
IsWithin xs ys = (s : SlotId) → times s xs ≤ times s ys

-- The seat is in the middle of nothing, owns what is listed, and has seen what is listed as seen; and its region is
-- open where `inside` says so, and closed where it doesn't.
pub record Plays {P V : Type 0} (d : DomainState P) (s : SeatState V) (strongs seen : List SlotId)
    (inside : Bool) : Type 0 where
  pub rest : IsAtRest d s
  pub strong : IsWithin strongs s.view.core.owned
  pub looked : IsWithin seen s.view.core.seen
  pub within : inside ≡ true → IsInside s.view.core
  pub outside : inside ≡ false → s.view.core.number ≡ 0
