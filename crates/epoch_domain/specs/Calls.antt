-- What a call of a seat asks, and what it tells: each call is one event.
use Rattle.std.specs.Prelude.{ℕ, ◌≡◌, ◌+◌, ◌≤◌, List, Option, Some}
use Rattle.atomic_table.specs.Table.{Me}
use Rattle.atomic_table.specs.declared.shared.Seat.{Seat as TableSeat}
use Rattle.epoch_rule.specs.plain_protocol.plain_state.declared.act.PlainAct.{PlainAct}
use Rattle.epoch_rule.specs.plain_protocol.plain_state.State.{Plain}
use Rattle.epoch_rule.specs.plain_protocol.Owns.{OwnPart}
use Rattle.epoch_rule.specs.epoch_core.declared.act.EpochAct.{EpochAct}
use Rattle.epoch_rule.specs.epoch_core.declared.act.EpochAct.TheVariants as act
use Rattle.epoch_rule.specs.epoch_core.declared.outcome.EpochOutcome.{EpochOutcome}
use Rattle.epoch_rule.specs.epoch_core.declared.view.EpochView.{EpochView}
use Rattle.epoch_rule.specs.epoch_core.Steps.{May, answer, next, place}
use Rattle.epoch_rule.specs.declared.view.EpochSeatView.{EpochSeatView}
use Rattle.epoch_rule.specs.Told.{FitsStart, IsOwn, Told, deed_step}
use Rattle.epoch_rule.specs.Views.{own_of}
use Rattle.epoch_domain.specs.Domains.{DomainState}
use Rattle.epoch_domain.specs.Seats.{IsSeated, SeatState}

-- the domain, the deed and the act of a step, for its proof
pub record Aimed (P D : Type 0) : Type 0 where
  pub domain : DomainState P
  pub deed : D
  pub act : EpochAct

abbrev pub aimed : {P D : Type 0} → DomainState P → D → EpochAct → Aimed P D
aimed d deed a = record { domain = d; deed = deed; act = a }

-- The step is aimed at the act, with the deed and in the domain. It is on the word that the act is on, and makes of it
-- what the act does.
pub record IsAimed {P D : Type 0} (aim : Option (Aimed P D)) (d : DomainState P) (deed : D)
    (a : EpochAct) (v : EpochView) (word : ℕ) (change : ℕ → ℕ) : Type 0 where
  pub aims : aim ≡ Some (aimed d deed a)
  pub at : word ≡ place d.shape a v
  pub changes : (w : ℕ) → next a v w ≡ change w

module _ {V : Type 0} where
  -- the deed is ready for whichever plain step it is told of
  abbrev pub IsReady : (OwnPart → V → PlainAct → Type 0) → EpochAct → EpochSeatView V → Type 0
  IsReady ready a v = (w : ℕ) → ready (own_of v) v.client (deed_step a w v.core).0

  -- the view of the client's stays as it is: the deed of a call that has none
  abbrev pub same_view : OwnPart → OwnPart → V → PlainAct → ℕ → V
  same_view own after v a found = v

  abbrev pub IsSameView : Plain → Plain → ℕ → V → V → Type 0
  IsSameView p q n v w = w ≡ v

-- how many pending entries the act makes
abbrev pub entries_made : EpochAct → ℕ
entries_made act.Date = 1
entries_made a = 0

module _ {P V : Type 0} where
  -- the seat is one of the domain's
  abbrev pub IsOf : DomainState P → SeatState V → Type 0
  IsOf d s = (s.table ≡ d.table) × (s.view.core.shape ≡ d.shape)

  -- a seat of the table may make the act, and the deed is ready for it
  pub record CanStep (d : DomainState P) (ready : OwnPart → V → PlainAct → Type 0)
      (fits : List ℕ → Type 0) (a : EpochAct) (s : TableSeat (Unit {0}) (EpochSeatView V))
      : Type 0 where
    pub table : s.table_id ≡ d.table
    pub shape : s.me.0.core.shape ≡ d.shape
    pub seated : IsSeated s.me
    pub own : IsOwn a s.me.0
    pub may : May d.shape a s.me.0.core
    pub starts : FitsStart fits a s.me.0
    pub is_ready : IsReady ready a s.me.0

module _ {P V : Type 0} (fits : List ℕ → Type 0) where
  -- The seat has made the act in one atomic step, which found `word`, and answers o. `next` and `allows` are the
  -- deed's. The room for pending entries is no smaller, but for one that the act makes.
  pub record Steps (d : DomainState P) (next : OwnPart → OwnPart → V → PlainAct → ℕ → V)
      (allows : Plain → Plain → ℕ → V → V → Type 0) (a : EpochAct) (old new : SeatState V)
      (o : EpochOutcome) : Type 0 where
    pub table : new.table ≡ old.table
    pub word : ℕ
    pub told : Told fits d.shape d.quotas next allows a old.view word new.view
    pub answers : o ≡ answer a word old.view.core
    pub room : old.room ≤ new.room + entries_made a

  -- the step found w, and the seat carries what it carried
  abbrev pub Finds : DomainState P → (OwnPart → OwnPart → V → PlainAct → ℕ → V)
      → (Plain → Plain → ℕ → V → V → Type 0) → EpochAct → Me (Unit {0}) (EpochSeatView V) → ℕ
      → Me (Unit {0}) (EpochSeatView V) → Type 0
  Finds d next allows a m w m' =
      Told fits d.shape d.quotas next allows a m.0 w m'.0 × (m'.1 ≡ m.1)

  -- the seat of the table has made the act, and found w
  pub record Stepped (d : DomainState P) (next : OwnPart → OwnPart → V → PlainAct → ℕ → V)
      (allows : Plain → Plain → ℕ → V → V → Type 0) (a : EpochAct)
      (old : TableSeat (Unit {0}) (EpochSeatView V)) (w : ℕ)
      (new : TableSeat (Unit {0}) (EpochSeatView V)) : Type 0 where
    pub table : new.table_id ≡ old.table_id
    pub seated : IsSeated new.me
    pub told : Told fits d.shape d.quotas next allows a old.me.0 w new.me.0
