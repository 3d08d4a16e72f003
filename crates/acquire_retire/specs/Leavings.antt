-- What callers see of seat 0 when another seat has left.
use Rattle.std.specs.Prelude.{ℕ, ◌≡◌, ◌↔◌, List, Option, Some, None, IsSome}
use Rattle.atomic_table.specs.declared.shared.Seat.{Seat as TableSeat}
use Rattle.plain_state.specs.declared.act.PlainAct.TheVariants as plain
use Rattle.plain_state.specs.declared.slot.SlotId.{SlotId}
use Rattle.plain_state.specs.Steps.{Does}
use Rattle.domain_rule.specs.plain_protocol.Owns.{HasSlot}
use Rattle.core_promises.specs.core_events.Shows.{show_seat}
use Rattle.core_promises.specs.core_events.declared.act.Act.TheVariants as act
use Rattle.core_promises.specs.core_events.declared.act.Event.{Event}
use Rattle.core_promises.specs.core_events.declared.shape.Shape.{Shape}
use Rattle.core_promises.specs.core_events.Views.{Terms}
use Rattle.core_promises.specs.core_events.Runs.{after}
use Rattle.core_promises.specs.core_events.Steps.{CanLeave}
use Rattle.core_promises.specs.core_events.Shows.{shows}
use Rattle.core_promises.specs.Trails.{HasEvent}
use Rattle.domain_rule.specs.declared.view.SeatView.{SeatView}
use Rattle.domain_rule.specs.Opening.{joined_view}
use Rattle.domain_rule.specs.Reading.{FoundIn}
use Rattle.domain_rule.specs.Views.{IsAlone, object_in}
use Rattle.acquire_retire.specs.Domains.{DomainState}
use Rattle.acquire_retire.specs.Seats.{IsSeated, SeatState}

-- Of each slot that the one seat has the other knows the object in the same life.
abbrev pub KnowsAlike : {V : Type 0} → SeatView V → SeatView V → Type 0
KnowsAlike v new =
    (s : SlotId) → HasSlot (show_seat v.core) s → (object_in new s).life ≡ (object_in v s).life

-- and it knows of it all that the one seat knew
abbrev pub KnowsSame : {V : Type 0} → SeatView V → SeatView V → Type 0
KnowsSame v new = (s : SlotId) → HasSlot (show_seat v.core) s → object_in new s ≡ object_in v s

-- Among these events, the latest first, seat j left, in a state that is told, and that event shows the
-- plain step of a leave.
pub record HasLeft (z : Shape) (ts : Terms) (events : List Event) (j : ℕ) : Type 0 where
  pub event : HasEvent z ts events 0 (act.Leave j)
  pub shows :
      Does (shows z event.core) 0 (plain.Leave j) 0 (shows z (after z event.core 0 (act.Leave j)))

module _ {P V : Type 0} where
  -- seat 0 takes over what the seat has, in the domain that was named
  abbrev pub joined_in : (P → V → V → V) → Option (DomainState P) → SeatView V → SeatView V
      → SeatView V
  joined_in joined None root v = root
  joined_in joined (Some d) root v = joined_view (joined d.protocol) root v

  -- two bare seats of the domain, of which the first is seat 0, and the other may leave
  pub record MayJoin (d : DomainState P) (root v : TableSeat (Unit {0}) (SeatView V)) : Type 0 where
    pub tables : (root.table_id ≡ d.table) × (v.table_id ≡ d.table)
    pub seated : IsSeated root.me × IsSeated v.me
    pub shape : root.me.0.core.shape ≡ d.shape
    pub first : root.me.0.core.seat ≡ 0
    pub may : CanLeave root.me.0.core × CanLeave v.me.0.core

  -- the bare seat 0 has taken over what the other had, and what its view says is so
  pub record HasJoined (d : DomainState P) (fits : List ℕ → Type 0) (joined : V → V → V)
      (root v new : TableSeat (Unit {0}) (SeatView V)) : Type 0 where
    pub table : new.table_id ≡ root.table_id
    pub carries : new.me.1 ≡ root.me.1
    pub view : new.me.0 ≡ record (joined_view joined root.me.0 v.me.0) { whole = new.me.0.whole }
    pub knows : IsSome new.me.0.whole ↔ IsAlone new.me.0
    pub word : ℕ
    pub found : FoundIn fits d.shape d.terms new.me.0 0 word
    pub alike : KnowsAlike root.me.0 new.me.0 × KnowsAlike v.me.0 new.me.0
    pub same : KnowsSame root.me.0 new.me.0 × KnowsSame v.me.0 new.me.0
    pub left : HasLeft d.shape d.terms found.events v.me.0.core.seat

  -- Seat 0 has taken over what a seat had that left. What its view tells is so in a state that events
  -- lead to, the leave the last of its own, and so all payloads fit there. It knows the whole core
  -- exactly where it is alone now. What either had it knows in the life in which that seat had it, and
  -- with the payload that that seat knew.
  pub record TookOver (d : DomainState P) (fits : List ℕ → Type 0) (joined : V → V → V)
      (root v new : SeatState V) : Type 0 where
    pub table : new.table ≡ root.table
    pub view : new.view ≡ record (joined_view joined root.view v.view) { whole = new.view.whole }
    pub knows : IsSome new.view.whole ↔ IsAlone new.view
    pub word : ℕ
    pub found : FoundIn fits d.shape d.terms new.view 0 word
    pub alike : KnowsAlike root.view new.view × KnowsAlike v.view new.view
    pub same : KnowsSame root.view new.view × KnowsSame v.view new.view
    pub left : HasLeft d.shape d.terms found.events v.view.core.seat
