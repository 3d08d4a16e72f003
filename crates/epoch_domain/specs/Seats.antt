-- What callers see of a seat, and what the seat stores of its view.
use Rattle.std.specs.Prelude.{ℕ, ◌≡◌, ◌≢◌, ◌+◌, ◌<◌, ◌≤◌, false, List, [], length}
use Rattle.atomic_table.specs.Seated.{TableId}
use Rattle.atomic_table.specs.Table.{Me}
use Rattle.epoch_rule.specs.epoch_core.core_events.declared.shape.Quota.{Quota}
use Rattle.epoch_rule.specs.epoch_core.plain_state.declared.slot.SlotId.{SlotId}
use Rattle.epoch_rule.specs.epoch_core.declared.act.Dated.{Dated}
use Rattle.epoch_rule.specs.epoch_core.declared.view.EpochPhase.{EpochPhase}
use Rattle.epoch_rule.specs.epoch_core.declared.view.EpochView.{EpochView}
use Rattle.epoch_rule.specs.epoch_core.Runs.{IsShape}
use Rattle.epoch_rule.specs.epoch_core.Sound.{SeatLaw}
use Rattle.epoch_rule.specs.declared.view.EpochSeatView.{EpochSeatView}
use Rattle.epoch_rule.specs.Views.{KnowsAll}
use Rattle.epoch_parts.specs.Pending.{Queues}

-- which table it steps on, what it knows, and for how many pending entries more it has room
pub record SeatState (V : Type 0) : Type 0 where
  pub table : TableId
  pub view : EpochSeatView V
  pub room : ℕ

-- What a seat stores. What its region word holds, the references that it owns, what its region has seen, and the trails
-- stand in its view alone.
pub record Stored : Type 0 where
  pub number : ℕ
  pub quota : Quota
  pub adds : ℕ
  pub makes : ℕ
  pub phase : EpochPhase
  pub pending : List Dated
  pub ended : List SlotId
  pub known : ℕ
  pub left : ℕ

-- of the seats that have left it stores how many they are
abbrev pub stored : EpochView → Stored
stored v = record {
  number = v.seat;
  quota = v.quota;
  adds = v.adds;
  makes = v.makes;
  phase = v.phase;
  pending = v.pending;
  ended = v.dying;
  known = v.known;
  left = length v.left_seats;
}

-- There is room for all slots that it may have ended; it has its own list of entries and one of each seat that left,
-- and at seat 0 there is room for those of all seats.
pub record HasRooms (v : EpochView) (lists : Queues) (ended_room : ℕ) : Type 0 where
  pub ended : v.shape.slots ≤ ended_room
  pub counted : length lists.queues ≡ 1 + length v.left_seats
  pub root : v.seat ≡ 0 → v.shape.seats ≤ lists.room

-- it carries no slot of the table and hasn't left, and what holds of a seat by itself holds of it
pub record IsSeated {V : Type 0} (me : Me (Unit {0}) (EpochSeatView V)) : Type 0 where
  pub carries : me.1 ≡ []
  pub here : me.0.gone ≡ false
  pub shape : IsShape me.0.core.shape
  pub there : me.0.core.seat < me.0.core.shape.seats
  pub law : SeatLaw me.0.core.shape me.0.core.seat me.0.core
  pub root : me.0.core.seat ≢ 0 → me.0.core.left_seats ≡ []
  pub knows : KnowsAll me.0

-- between calls it stores what its view has
pub record IsSeat {V : Type 0} (me : Me (Unit {0}) (EpochSeatView V)) (s : Stored)
    (lists : Queues) (ended_room : ℕ) : Type 0 where
  pub seated : IsSeated me
  pub stores : s ≡ stored me.0.core
  pub rooms : HasRooms me.0.core lists ended_room
