-- A heap that has the words of some slots of a state alone, which name slots by their places among these.
use Rattle.std.specs.Prelude.{ℕ, ◌≡◌, ◌+◌, ◌<◌, ◌⊎◌, List, length, map}
use Rattle.plain_audit.specs.plain_state.declared.image.Heap.{Heap}
use Rattle.plain_audit.specs.plain_state.declared.slot.SlotId.{SlotId}
use Rattle.plain_audit.specs.plain_state.Images.{image_at}
use Rattle.plain_audit.specs.plain_state.State.{Plain, seat_at}
use Rattle.plain_audit.specs.plain_state.Steps.{word_of}
use Rattle.plain_audit.specs.plain_store.Heaps.{IsHeap}
use Rattle.plain_audit.specs.plain_store.Settling.{IsSettled}
use Rattle.plain_audit.specs.heap_audit.Heaps.{slot}
use Rattle.plain_audit.specs.heap_audit.Walks.{rank_of}
use Rattle.acquire_retire.specs.Taken.{HasWords, taken_slots}
use Rattle.taken_audit.specs.Placed.{at, placed, placed_entry, placed_image}

pub record IsPart (p : Plain) (taken : List SlotId) (part : Heap) : Type 0 where
  pub slots : part.slots.items ≡ map (placed_image taken) (map (image_at p) taken)
  pub cells : part.cells.items ≡ map (placed taken) (map word_of p.cells)
  pub weak_cells : part.weak_cells.items ≡ map (placed taken) (map word_of p.weak_cells)
  pub deferred : part.deferred.items ≡ map (placed_entry taken) (seat_at p 0).deferred

-- a slot stands in the list; a word names such a slot, or none
abbrev pub Stands : List SlotId → SlotId → Type 0
Stands taken s = (k : ℕ) × (k < length taken) × (at taken k ≡ s)

abbrev pub IsNamed : List SlotId → ℕ → Type 0
IsNamed taken word = (word ≡ 0) ⊎ ((s : SlotId) × Stands taken s × (word ≡ s.0 + 1))

-- the slots in the places that others name
abbrev pub named_slots : List SlotId → List SlotId → List SlotId
named_slots taken places = map (λ (s : SlotId). at taken s.0) places

-- the ranks of places are those of the slots in them
abbrev pub AreRanks : List SlotId → List ℕ → List ℕ → Type 0
AreRanks taken places ranks =
    (k : ℕ) → k < length taken → rank_of places (slot k) ≡ rank_of ranks (at taken k)

-- a settled heap of one seat, its slots that aren't free, and their words
pub record HasTaken (fits : List ℕ → Type 0) (p : Plain) (taken : List SlotId) (heap : Heap) : Type 0
  where
    pub state : IsHeap fits p
    pub settled : IsSettled p
    pub all : taken ≡ taken_slots p
    pub words : HasWords p taken heap
