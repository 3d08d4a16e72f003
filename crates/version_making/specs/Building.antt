-- A node that a seat is making: it owns it, and alone may set its fields.
use Rattle.std.specs.Prelude.{ℕ, suc, ◌≡◌, ◌-◌, ◌^◌, ◌<◌, List, ◌∷◌, max, min, slice_index, Option, Some, None}
use Rattle.map_law.specs.plain_state.declared.slot.SlotId.{SlotId}
use Rattle.map_law.specs.plain_state.Lists.{times}
use Rattle.map_law.specs.declared.view.Kid.{Kid}
use Rattle.map_law.specs.declared.view.Raw.{Raw}
use Rattle.map_law.specs.declared.view.View.{View}
use Rattle.map_law.specs.Making.{with_kid}
use Rattle.map_law.specs.Nodes.{IsNode}
use Rattle.map_law.specs.Patterns.{Pattern, branch}
use Rattle.map_law.specs.Plans.{height_of}
use Rattle.slot_store.specs.counted_handles.Handles.{Handle}
use Rattle.slot_store.specs.domain_rule.Views.{object_in}
use Rattle.slot_store.specs.acquire_retire.Domains.{DomainState}
use Rattle.slot_store.specs.acquire_retire.Seats.{SeatState}
use Rattle.slot_store.specs.control_word.Resting.{IsSpent}
use Rattle.slot_store.specs.declared.making.MakeError.{MakeError}
use Rattle.slot_store.specs.declared.making.MakeError.TheVariants as refused
use Rattle.slot_store.specs.Calls.{HasNoMake}
use Rattle.slot_store.specs.Searching.{Misses}
use Rattle.version_making.specs.Keeping.{GoesOn}
use Rattle.version_making.specs.Standing.{Stands}

-- the height that the node of a handle keeps; 0 where it is null
abbrev pub height_by : Option Handle → SeatState View → ℕ
height_by None seat = 0
height_by (Some handle) seat = slice_index (object_in seat.view handle.slot).payload 3

-- a note of a node with null fields in s
abbrev pub raw_of : SlotId → SeatState View → Raw
raw_of s seat = record {
  slot = s;
  life = (object_in seat.view s).life;
  payload = (object_in seat.view s).payload;
  first = None;
  second = None;
}

-- this is what the seat noted last of its own nodes, and it owns it
pub record IsMaking (e : Raw) (seat : SeatState View) : Type 0 where
  pub owned : 0 < times e.slot seat.view.core.owned
  pub life : e.life ≡ (object_in seat.view e.slot).life
  pub payload : e.payload ≡ (object_in seat.view e.slot).payload
  pub others : List Raw
  pub raw : seat.view.client.raw ≡ e ∷ others

-- some note of s is that
abbrev pub Makes : SlotId → SeatState View → Type 0
Makes s seat = (e : Raw) × (e.slot ≡ s) × IsMaking e seat

-- the same note with a kid in field i, if there is one
abbrev pub with_tree : ℕ → Option Kid → Raw → Raw
with_tree i None e = e
with_tree i (Some k) e = with_kid i (Some k) e

-- a height as a word has it
abbrev pub capped : ℕ → ℕ
capped h = min (2 ^ 64 - 1) h

-- a node over two patterns, with its height as a word has it
abbrev pub put_over : ℕ → ℕ → Pattern → Pattern → Pattern
put_over key value l r = branch key value (capped (suc (max (height_of l) (height_of r)))) l r

-- The node of a handle was made over two subtrees: whatever the seat's notes spelled from these on, they spell a node
-- over that from it on.
abbrev pub IsPut : Handle → ℕ → ℕ → Option Handle → Option Handle → SeatState View
    → SeatState View → Type 0
IsPut node key value left right old new =
    (l r : Pattern) → Stands left l old → Stands right r old
    → Stands (Some node) (put_over key value l r) new

-- between two states of the call each slot of the domain was found taken
pub record MissesWithin {P : Type 0} (d : DomainState P) (old new : SeatState View) : Type 0 where
  pub mid : SeatState View
  pub late : SeatState View
  pub misses : Misses IsNode d mid late
  pub since : GoesOn old.view.core mid.view.core
  pub till : GoesOn late.view.core new.view.core

-- why a call made nothing
abbrev pub IsWhy : {P : Type 0} → DomainState P → MakeError → SeatState View → SeatState View
    → Type 0
IsWhy d refused.MakesSpent old new = HasNoMake new.view.core
IsWhy d refused.AddsSpent old new = IsSpent new.view.core
IsWhy d refused.Full old new = MissesWithin d old new
