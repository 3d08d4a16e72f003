-- What a seat has by its view: what it holds, which places are open to it, what a scan of it still
-- guards.
use Rattle.std.specs.Prelude.{ℕ, ◌<◌, ◌+◌, ◌*◌, false, List, [], ◌∷◌, slice_index_or, sum_by, if◌then◌else◌, Option, Some, None}
use Rattle.announce_slots.specs.plain_state.declared.act.EventPlace.{EventPlace}
use Rattle.announce_slots.specs.plain_state.declared.act.EventPlace.TheVariants.{Cell, Field, WeakCell, WeakField}
use Rattle.announce_slots.specs.plain_state.declared.slot.Kind.TheVariants.{Strong, Weak, Disposal}
use Rattle.announce_slots.specs.plain_state.declared.slot.SlotId.{SlotId}
use Rattle.announce_slots.specs.plain_state.Lists.{Entry, times, entry_times, is_slot}
use Rattle.core_events.specs.declared.shape.Shape.{Shape}
use Rattle.core_events.specs.declared.shape.Quota.{Quota}
use Rattle.core_events.specs.declared.view.CoreView.{CoreView}
use Rattle.core_events.specs.declared.view.Note.{Note}
use Rattle.core_events.specs.declared.view.Note.TheVariants as note
use Rattle.core_events.specs.declared.view.Phase.{Phase}
use Rattle.core_events.specs.declared.view.Phase.TheVariants as phase

-- one place for each announcement word, and the batch
abbrev pub room_of : Shape → ℕ
room_of z = 4 * z.seats + z.batch

abbrev pub no_notes : List Note
no_notes = note.Idle ∷ note.Idle ∷ note.Idle ∷ note.Idle ∷ []

-- what the seats of a domain may use up: a quota each, and the makes that each ticket grants
pub record Terms : Type 0 where
  pub quotas : List Quota
  pub grants : List ℕ

-- seat n has done nothing
abbrev pub first_view : Shape → ℕ → Quota → List ℕ → CoreView
first_view z n q grants = record {
  seat = n;
  shape = z;
  quota = q;
  grants = grants;
  room = room_of z;
  owned = [];
  weaks = [];
  notes = no_notes;
  retired = [];
  owed = [];
  dying = [];
  ripe = [];
  phase = phase.Idle;
  seen = [];
  adds = 0;
  makes = 0;
  tickets = [];
  left = false;
  trail = [];
  made = [];
  left_seats = [];
}

abbrev pub first_views : Shape → ℕ → List Quota → List ℕ → List CoreView
first_views z n [] grants = []
first_views z n (q ∷ qs) grants = first_view z n q grants ∷ first_views z (n + 1) qs grants

-- a view where there is no seat
abbrev pub no_view : CoreView
no_view =
    first_view (record { seats = 0; slots = 0; cells = 0; weak_cells = 0; batch = 0 }) 0
    (record { makes = 0; adds = 0 }) []

abbrev pub note_of : CoreView → ℕ → Note
note_of v j = slice_index_or v.notes j note.Idle

-- the entries of the valid notes, in the order of their words
abbrev pub valid_of : List Note → List Entry
valid_of [] = []
valid_of (note.Idle ∷ ns) = valid_of ns
valid_of (note.Announced k s ∷ ns) = valid_of ns
valid_of (note.Valid k s ∷ ns) = (k, s) ∷ valid_of ns

abbrev pub snapshots : CoreView → List Entry
snapshots v = valid_of v.notes

-- the seat owns s, strongly or weakly, or is under a snapshot of it
abbrev pub held_times : SlotId → CoreView → ℕ
held_times s v =
    times s v.owned + times s v.weaks + entry_times Strong s (snapshots v)
    + entry_times Weak s (snapshots v) + entry_times Disposal s (snapshots v)

abbrev pub Holds : CoreView → SlotId → Type 0
Holds v s = 0 < held_times s v

-- it owns s strongly, or is under a strong snapshot of it
abbrev pub HoldsStrongly : CoreView → SlotId → Type 0
HoldsStrongly v s = 0 < times s v.owned + entry_times Strong s (snapshots v)

-- a cell is open to every seat, a field to a seat that holds its slot strongly
abbrev pub IsOpen : Shape → CoreView → EventPlace → Type 0
IsOpen z v (Cell i) = i < z.cells
IsOpen z v (Field s i) = (i < 2) × HoldsStrongly v s
IsOpen z v (WeakCell i) = i < z.weak_cells
IsOpen z v (WeakField s) = HoldsStrongly v s

-- to read, a field is open also to a seat under a weak snapshot of its slot
abbrev pub CanReadFields : CoreView → SlotId → Type 0
CanReadFields v s =
    0 < times s v.owned + entry_times Strong s (snapshots v) + entry_times Disposal s (snapshots v)

abbrev pub IsReadable : Shape → CoreView → EventPlace → Type 0
IsReadable z v (Cell i) = i < z.cells
IsReadable z v (Field s i) = (i < 2) × CanReadFields v s
IsReadable z v (WeakCell i) = i < z.weak_cells
IsReadable z v (WeakField s) = CanReadFields v s

-- the place is a field of a slot that the seat may destroy
abbrev pub IsRipeField : CoreView → EventPlace → Type 0
IsRipeField v (Cell i) = ⊥
IsRipeField v (Field s i) = (i < 2) × (0 < times s v.ripe)
IsRipeField v (WeakCell i) = ⊥
IsRipeField v (WeakField s) = 0 < times s v.ripe

-- the makes that the seat may use up: its quota, and what its own tickets grant
abbrev pub granted : List ℕ → List ℕ → ℕ
granted grants tickets = sum_by (λ t. slice_index_or grants t 0) tickets

abbrev pub allowed_makes : CoreView → ℕ
allowed_makes v = v.quota.makes + granted v.grants v.tickets

-- the slot of a phase that has one
abbrev pub slot_of : Phase → Option SlotId
slot_of phase.Idle = None
slot_of (phase.Finish s) = Some s
slot_of (phase.Help s) = Some s
slot_of (phase.Zero s) = Some s
slot_of phase.Scan = None
slot_of (phase.Bare s) = Some s
slot_of (phase.Blank s) = Some s
slot_of (phase.Give s) = Some s

-- the slot that a note names, if it names one
abbrev pub slot_noted : Note → Option SlotId
slot_noted note.Idle = None
slot_noted (note.Announced k s) = Some s
slot_noted (note.Valid k s) = Some s

-- a number that a slot has, where there is a slot
abbrev pub of_slot : (SlotId → ℕ) → Option SlotId → ℕ
of_slot f None = 0
of_slot f (Some s) = f s

-- a phase about a slot, where there is one
abbrev pub about : (SlotId → Phase) → Option SlotId → Phase
about f None = phase.Idle
about f (Some s) = f s

-- the slot alone, where there is one
abbrev pub alone : Option SlotId → List SlotId
alone None = []
alone (Some s) = s ∷ []

-- the list without its first s
abbrev pub without : SlotId → List SlotId → List SlotId
without s [] = []
without s (x ∷ xs) = if is_slot s x then xs else x ∷ without s xs
