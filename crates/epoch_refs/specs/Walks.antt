-- What a call of several events does: these events of one seat, in turn.
use Rattle.std.specs.Prelude.{ℕ, ◌≡◌, List, [], ◌∷◌}
use Rattle.epoch_domain.specs.epoch_core.declared.act.EpochAct.{EpochAct}
use Rattle.epoch_domain.specs.epoch_core.declared.outcome.EpochOutcome.{EpochOutcome}
use Rattle.epoch_domain.specs.epoch_core.declared.view.EpochMove.{EpochMove}
use Rattle.epoch_domain.specs.epoch_core.Views.{IsIdle}
use Rattle.epoch_domain.specs.Calls.{IsOf, IsSameView, Steps, same_view}
use Rattle.epoch_domain.specs.Domains.{DomainState}
use Rattle.epoch_domain.specs.Seats.{SeatState}

abbrev pub move : EpochAct → EpochOutcome → EpochMove
move a o = record { act = a; outcome = o }

module _ {P V : Type 0} where
  -- the seat is one of the domain's, and in the middle of nothing
  abbrev pub IsAtRest : DomainState P → SeatState V → Type 0
  IsAtRest d s = IsOf d s × IsIdle s.view.core

  -- it is in the middle of nothing, and its region is closed
  pub record IsFree (d : DomainState P) (s : SeatState V) : Type 0 where
    pub rest : IsAtRest d s
    pub outside : s.view.core.number ≡ 0

  -- By these events, in turn, each with its answer, the seat has come from the one state to the other: each is one
  -- atomic step, told as such, and the client's view stays.
  abbrev pub Walks : (List ℕ → Type 0) → DomainState P → List EpochMove → SeatState V
      → SeatState V → Type 0
  Walks fits d [] old new = new ≡ old
  Walks fits d (m ∷ moves) old new =
      (mid : SeatState V)
      × Steps fits d same_view IsSameView m.act old mid m.outcome
      × Walks fits d moves mid new
