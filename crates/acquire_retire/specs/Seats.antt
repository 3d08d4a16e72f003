-- What callers see of a seat, and what the seat stores of its view.
use Rattle.std.specs.Prelude.{ℕ, ◌≡◌, ◌<◌, ◌≤◌, ◌*◌, ◌^◌, false, List, [], map, length, Option}
use Rattle.atomic_table.specs.Seated.{TableId}
use Rattle.atomic_table.specs.Table.{Me}
use Rattle.plain_state.specs.declared.slot.SlotId.{SlotId}
use Rattle.plain_state.specs.Lists.{Entry}
use Rattle.core_promises.specs.core_events.declared.shape.Quota.{Quota}
use Rattle.core_promises.specs.core_events.declared.view.CoreView.{CoreView}
use Rattle.core_promises.specs.core_events.declared.view.Phase.{Phase}
use Rattle.core_promises.specs.core_events.Good.{SeatLaw}
use Rattle.core_promises.specs.core_events.Runs.{IsShape}
use Rattle.core_promises.specs.core_events.Views.{granted, room_of, slot_noted}
use Rattle.dying_slots.specs.Dying.{waiting_of}
use Rattle.dying_slots.specs.eject_scan.Seen.{noted}
use Rattle.dying_slots.specs.eject_scan.declared.seen.Row.{Row}
use Rattle.domain_rule.specs.declared.view.SeatView.{SeatView}
use Rattle.domain_rule.specs.Views.{KnowsAll}

-- which table it steps on, and what it knows
pub record SeatState (V : Type 0) : Type 0 where
  pub table : TableId
  pub view : SeatView V

-- what a seat stores. The references that it owns and the trails stand in its view alone
pub record Stored : Type 0 where
  pub number : ℕ
  pub quota : Quota
  pub adds : ℕ
  pub makes : ℕ
  pub granted : ℕ
  pub phase : Phase
  pub announced : List (Option SlotId)
  pub retired : List Entry
  pub owed : List Entry
  pub seen : List Row
  pub read : ℕ
  pub waiting : List SlotId
  pub ripe : List SlotId
  pub left : ℕ

-- Of its notes it stores which slot each announces, of the words that its scan has read how often it
-- read each that announces something, of its tickets how many makes they grant, of the seats that have
-- left their number, and of its dying slots which are ripe and which are not.
abbrev pub stored : CoreView → Stored
stored v = record {
  number = v.seat;
  quota = v.quota;
  adds = v.adds;
  makes = v.makes;
  granted = granted v.grants v.tickets;
  phase = v.phase;
  announced = map slot_noted v.notes;
  retired = v.retired;
  owed = v.owed;
  seen = noted v.seen;
  read = length v.seen;
  waiting = waiting_of v.ripe v.dying;
  ripe = v.ripe;
  left = length v.left_seats;
}

-- there is room for all that it may have to store: at seat 0 for what all seats may retire, since
-- it takes over from those that leave
pub record HasRooms (v : CoreView) (batch_room seen_room dying_room : ℕ) : Type 0 where
  pub batch : v.room ≤ batch_room
  pub root : v.seat ≡ 0 → v.shape.seats * room_of v.shape ≤ batch_room
  pub seen : seen_room ≡ 4 * v.shape.seats
  pub dying : v.shape.slots ≤ dying_room

-- there is room to retire an entry for each announcement word, and a batch
abbrev pub HasBatch : CoreView → Type 0
HasBatch v = v.left ≡ false → room_of v.shape ≤ v.room

-- it carries no slot of the table and hasn't left, and what holds of a seat by itself holds of it
pub record IsSeated {V : Type 0} (me : Me (Unit {0}) (SeatView V)) : Type 0 where
  pub carries : me.1 ≡ []
  pub here : me.0.gone ≡ false
  pub shape : IsShape me.0.core.shape
  pub there : me.0.core.seat < me.0.core.shape.seats
  pub law : SeatLaw me.0.core.shape me.0.core.seat me.0.core
  pub room : HasBatch me.0.core
  pub granted : granted me.0.core.grants me.0.core.tickets ≤ 2 ^ 40
  pub knows : KnowsAll me.0

-- between calls it stores what its view has
pub record IsSeat {V : Type 0} (me : Me (Unit {0}) (SeatView V)) (s : Stored)
    (batch_room seen_room dying_room : ℕ) : Type 0 where
  pub seated : IsSeated me
  pub stores : s ≡ stored me.0.core
  pub rooms : HasRooms me.0.core batch_room seen_room dying_room
