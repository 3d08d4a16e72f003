-- Heaps of one seat that differ in nothing but which slots their objects stand in, and in the orders of lists.
use Rattle.std.specs.Prelude.{◌≡◌, ◌≢◌, length, map}
use Rattle.script_desk.specs.plain_state.declared.slot.Kind.{Kind}
use Rattle.script_desk.specs.plain_state.declared.slot.PlainSlot.{PlainSlot}
use Rattle.script_desk.specs.plain_state.declared.slot.SlotId.{SlotId}
use Rattle.script_desk.specs.plain_state.declared.slot.Stage.TheVariants.{Free}
use Rattle.script_desk.specs.plain_state.Lists.{times, entry_times}
use Rattle.script_desk.specs.plain_state.State.{Plain, PlainSeat, seat_at, slot_at}
use Rattle.script_law.specs.Renamings.{renamed}

-- a slot and the slot of its new name: they are equal but for their lives, and the payload of a free slot is nobody's
pub record SlotsAlike (to : SlotId → SlotId) (x y : PlainSlot) : Type 0 where
  pub stage : y.stage ≡ x.stage
  pub marked : y.marked ≡ x.marked
  pub payload : x.stage ≢ Free → y.payload ≡ x.payload
  pub first : y.first ≡ renamed to x.first
  pub second : y.second ≡ renamed to x.second
  pub weak_field : y.weak_field ≡ renamed to x.weak_field

-- the seats have the same, in whatever order
pub record SeatsAlike (to : SlotId → SlotId) (v w : PlainSeat) : Type 0 where
  pub owned : (s : SlotId) → times (to s) w.owned ≡ times s v.owned
  pub weaks : (s : SlotId) → times (to s) w.weaks ≡ times s v.weaks
  pub snapshots : (k : Kind) (s : SlotId)
      → entry_times k (to s) w.snapshots ≡ entry_times k s v.snapshots
  pub deferred : (k : Kind) (s : SlotId)
      → entry_times k (to s) w.deferred ≡ entry_times k s v.deferred

-- q is p by the new names
pub record StatesAlike (to : SlotId → SlotId) (p q : Plain) : Type 0 where
  pub size : length q.slots ≡ length p.slots
  pub slots : (s : SlotId) → SlotsAlike to (slot_at p s) (slot_at q (to s))
  pub cells : q.cells ≡ map (renamed to) p.cells
  pub weak_cells : q.weak_cells ≡ map (renamed to) p.weak_cells
  pub seat : SeatsAlike to (seat_at p 0) (seat_at q 0)
