-- What calls that only look and read leave of their seat.
use Rattle.std.specs.Prelude.{ℕ, ◌+◌, ◌<◌, ◌≤◌, length}
use Rattle.cell_law.specs.declared.view.View.{View}
use Rattle.cell_calls.specs.Keeping.{GoesOn, Keeps, Learns}
use Rattle.epoch_domain.specs.plain_protocol.plain_state.declared.slot.SlotId.{SlotId}
use Rattle.epoch_domain.specs.plain_protocol.plain_state.Lists.{times}
use Rattle.epoch_domain.specs.plain_protocol.plain_state.State.{Plain}
use Rattle.epoch_domain.specs.epoch_core.declared.act.EpochAct.{EpochAct}
use Rattle.epoch_domain.specs.epoch_core.declared.view.EpochView.{EpochView}
use Rattle.epoch_domain.specs.epoch_core.Steps.{moved}
use Rattle.epoch_domain.specs.epoch_rule.Told.{Happened}
use Rattle.epoch_domain.specs.Domains.{DomainState}
use Rattle.epoch_domain.specs.Seats.{SeatState}

-- the seat's region has seen s
abbrev pub HasSeen : EpochView → SlotId → Type 0
HasSeen v s = 0 < times s v.seen

-- At most n events
abbrev pub IsFew : {V : Type 0} → ℕ → SeatState V → SeatState V → Type 0
IsFew n old new = length new.view.core.trail ≤ length old.view.core.trail + n

-- By at most n events the seat has looked and read. It has made nothing and used no add, and owns what it owned. Its
-- view of the client has learnt of cells and of records, and of nothing else.
pub record OnlyLooks (n : ℕ) (old new : SeatState View) : Type 0 where
  pub keeps : Keeps 0 0 old.view.core.owned old new
  pub learns : Learns old.view.client new.view.client
  pub few : IsFew n old new

-- the seat made a step between these two states, before which this held of the plain state that the domain showed
pub record AtStep {P V : Type 0} (d : DomainState P) (fact : Plain → Type 0)
    (old new : SeatState V) : Type 0 where
  pub view : EpochView
  pub act : EpochAct
  pub word : ℕ
  pub happened :
      Happened d.shape d.quotas old.view.core.seat view act word (λ p q. fact p)
  pub since : GoesOn old.view.core view
  pub till : GoesOn (moved d.shape act word view) new.view.core
