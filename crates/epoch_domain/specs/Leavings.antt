-- What callers see of seat 0 when another seat has left.
use Rattle.std.specs.Prelude.{ℕ, ◌≡◌, ◌↔◌, List, ◌∷◌, ◌++◌, Option, Some, None, IsSome}
use Rattle.atomic_table.specs.declared.shared.Seat.{Seat as TableSeat}
use Rattle.epoch_rule.specs.plain_protocol.plain_state.declared.act.PlainAct.TheVariants as plain
use Rattle.epoch_rule.specs.plain_protocol.plain_state.declared.slot.SlotId.{SlotId}
use Rattle.epoch_rule.specs.plain_protocol.plain_state.Steps.{Does}
use Rattle.epoch_rule.specs.plain_protocol.Owns.{HasSlot}
use Rattle.epoch_rule.specs.epoch_core.core_events.declared.shape.Quota.{Quota}
use Rattle.epoch_rule.specs.epoch_core.declared.act.EpochAct.TheVariants as act
use Rattle.epoch_rule.specs.epoch_core.declared.act.EpochEvent.{EpochEvent}
use Rattle.epoch_rule.specs.epoch_core.declared.shape.EpochShape.{EpochShape}
use Rattle.epoch_rule.specs.epoch_core.Runs.{Core, Enabled, History, after}
use Rattle.epoch_rule.specs.epoch_core.Shows.{show_seat, shows}
use Rattle.epoch_rule.specs.epoch_core.Steps.{CanLeave}
use Rattle.epoch_rule.specs.declared.view.EpochSeatView.{EpochSeatView}
use Rattle.epoch_rule.specs.Opening.{joined_view}
use Rattle.epoch_rule.specs.Reading.{FoundIn}
use Rattle.epoch_rule.specs.Views.{IsAlone, object_in}
use Rattle.epoch_domain.specs.Domains.{DomainState}
use Rattle.epoch_domain.specs.Seats.{IsSeated, SeatState}

-- of each slot that the one seat has the other knows the same object, in the same life and with the same payload
abbrev pub KnowsSame : {V : Type 0} → EpochSeatView V → EpochSeatView V → Type 0
KnowsSame v new = (s : SlotId) → HasSlot (show_seat v.core) s → object_in new s ≡ object_in v s

-- Among these events, the latest first, seat j left, in the state `core`, and that event shows the plain step of a
-- leave.
pub record HasLeft (z : EpochShape) (qs : List Quota) (events : List EpochEvent) (j : ℕ)
    : Type 0 where
  pub since : List EpochEvent
  pub before : List EpochEvent
  pub core : Core
  pub are : events ≡ since ++ record { seat = 0; act = act.Leave j } ∷ before
  pub history : History z qs before core
  pub enabled : Enabled z core 0 (act.Leave j)
  pub shows : Does (shows z core) 0 (plain.Leave j) 0 (shows z (after z core 0 (act.Leave j)))

module _ {P V : Type 0} where
  -- seat 0 takes over what the seat has, in the domain that was named
  abbrev pub joined_in : (P → V → V → V) → Option (DomainState P) → EpochSeatView V → EpochSeatView V
      → EpochSeatView V
  joined_in joined None root v = root
  joined_in joined (Some d) root v = joined_view (joined d.protocol) root v

  -- two bare seats of the domain, of which the first is seat 0, and the other may leave
  pub record MayJoin (d : DomainState P) (root v : TableSeat (Unit {0}) (EpochSeatView V))
      : Type 0 where
    pub tables : (root.table_id ≡ d.table) × (v.table_id ≡ d.table)
    pub seated : IsSeated root.me × IsSeated v.me
    pub shape : (root.me.0.core.shape ≡ d.shape) × (v.me.0.core.shape ≡ d.shape)
    pub first : root.me.0.core.seat ≡ 0
    pub may : CanLeave root.me.0.core × CanLeave v.me.0.core

  -- the bare seat 0 has taken over what the other had, and what its view says is so
  pub record HasJoined (d : DomainState P) (fits : List ℕ → Type 0) (joined : V → V → V)
      (root v new : TableSeat (Unit {0}) (EpochSeatView V)) : Type 0 where
    pub table : new.table_id ≡ root.table_id
    pub carries : new.me.1 ≡ root.me.1
    pub view : new.me.0 ≡ record (joined_view joined root.me.0 v.me.0) { whole = new.me.0.whole }
    pub knows : IsSome new.me.0.whole ↔ IsAlone new.me.0
    pub word : ℕ
    pub found : FoundIn fits d.shape d.quotas new.me.0 0 word
    pub same : KnowsSame root.me.0 new.me.0 × KnowsSame v.me.0 new.me.0
    pub left : HasLeft d.shape d.quotas found.events v.me.0.core.seat

  -- Seat 0 has taken over what a seat had that left. What its view tells is so in a state that events lead to, the
  -- leave among them, and so all payloads fit there. It knows the whole core exactly where it is alone now. What either
  -- had it knows in the life in which that seat had it, and with the payload that that seat knew.
  pub record TookOver (d : DomainState P) (fits : List ℕ → Type 0) (joined : V → V → V)
      (root v new : SeatState V) : Type 0 where
    pub table : new.table ≡ root.table
    pub view : new.view ≡ record (joined_view joined root.view v.view) { whole = new.view.whole }
    pub knows : IsSome new.view.whole ↔ IsAlone new.view
    pub word : ℕ
    pub found : FoundIn fits d.shape d.quotas new.view 0 word
    pub same : KnowsSame root.view new.view × KnowsSame v.view new.view
    pub left : HasLeft d.shape d.quotas found.events v.view.core.seat
