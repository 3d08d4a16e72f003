-- The places of a plain state: which are there, who may use them, what they hold.
use Rattle.std.specs.Prelude.{ℕ, ◌≡◌, ◌<◌, ◌+◌, ◌==◌, length, slice_index_or, slice_set, Option, None, if◌then◌else◌}
use Rattle.plain_state.specs.declared.act.EventPlace.{EventPlace}
use Rattle.plain_state.specs.declared.act.EventPlace.TheVariants.{Cell, Field, WeakCell, WeakField}
use Rattle.plain_state.specs.declared.slot.Kind.{Kind}
use Rattle.plain_state.specs.declared.slot.Kind.TheVariants.{Strong, Weak, Disposal}
use Rattle.plain_state.specs.declared.slot.SlotId.{SlotId}
use Rattle.plain_state.specs.declared.slot.PlainSlot.{PlainSlot}
use Rattle.plain_state.specs.Lists.{times, entry_times}
use Rattle.plain_state.specs.State.{Plain, PlainSeat, seat_at, slot_at, with_slot}
use Rattle.plain_state.specs.References.{snapshot_times}

-- the seat owns s, strongly or weakly, or is under a snapshot of it
abbrev pub held_times : SlotId → PlainSeat → ℕ
held_times s v =
    times s v.owned + times s v.weaks + entry_times Strong s v.snapshots + entry_times Weak s v.snapshots
    + entry_times Disposal s v.snapshots

abbrev pub Holds : PlainSeat → SlotId → Type 0
Holds v s = 0 < held_times s v

-- it owns s strongly, or is under a strong snapshot of it
abbrev pub HoldsStrongly : PlainSeat → SlotId → Type 0
HoldsStrongly v s = 0 < times s v.owned + entry_times Strong s v.snapshots

abbrev pub place_kind : EventPlace → Kind
place_kind (Cell i) = Strong
place_kind (Field s i) = Strong
place_kind (WeakCell i) = Weak
place_kind (WeakField s) = Weak

-- strong field i of a slot
abbrev pub field_of : ℕ → PlainSlot → Option SlotId
field_of i x = if i == 0 then x.first else x.second

abbrev pub with_field : ℕ → Option SlotId → PlainSlot → PlainSlot
with_field i new x = if i == 0 then record x { first = new } else record x { second = new }

-- the slot that a place holds, if it isn't null
abbrev pub content : Plain → EventPlace → Option SlotId
content p (Cell i) = slice_index_or p.cells i None
content p (Field s i) = field_of i (slot_at p s)
content p (WeakCell i) = slice_index_or p.weak_cells i None
content p (WeakField s) = (slot_at p s).weak_field

-- the same state, with another content of the place
abbrev pub with_content : Plain → EventPlace → Option SlotId → Plain
with_content p (Cell i) new = record p { cells = slice_set p.cells i new }
with_content p (Field s i) new = with_slot p s (with_field i new (slot_at p s))
with_content p (WeakCell i) new = record p { weak_cells = slice_set p.weak_cells i new }
with_content p (WeakField s) new = with_slot p s (record (slot_at p s) { weak_field = new })

-- a cell is open to every seat, a field to a seat that holds its slot strongly
abbrev pub IsOpen : Plain → ℕ → EventPlace → Type 0
IsOpen p n (Cell i) = i < length p.cells
IsOpen p n (Field s i) = (i < 2) × HoldsStrongly (seat_at p n) s
IsOpen p n (WeakCell i) = i < length p.weak_cells
IsOpen p n (WeakField s) = HoldsStrongly (seat_at p n) s

-- to read, a field is open also to a seat under a weak snapshot of its slot
abbrev pub CanReadFields : PlainSeat → SlotId → Type 0
CanReadFields v s =
    0 < times s v.owned + entry_times Strong s v.snapshots + entry_times Disposal s v.snapshots

abbrev pub IsReadable : Plain → ℕ → EventPlace → Type 0
IsReadable p n (Cell i) = i < length p.cells
IsReadable p n (Field s i) = (i < 2) × CanReadFields (seat_at p n) s
IsReadable p n (WeakCell i) = i < length p.weak_cells
IsReadable p n (WeakField s) = CanReadFields (seat_at p n) s

-- the slot waits in the seat's dying list, and nobody is under a weak snapshot of it
abbrev pub CanDispose : Plain → ℕ → SlotId → Type 0
CanDispose p n s = (0 < times s (seat_at p n).dying) × (snapshot_times Disposal p s ≡ 0)

-- the place is a field of such a slot
abbrev pub IsDyingField : Plain → ℕ → EventPlace → Type 0
IsDyingField p n (Cell i) = ⊥
IsDyingField p n (Field s i) = (i < 2) × CanDispose p n s
IsDyingField p n (WeakCell i) = ⊥
IsDyingField p n (WeakField s) = CanDispose p n s
