-- Marks over the slots of a heap, and the list of what is marked.
use Rattle.std.specs.Prelude.{ℕ, ◌≡◌, ◌≢◌, ◌<◌, ◌+◌, ◌⊎◌, Bool, true, false, List, [], ◌∷◌, ◌++◌, length, All, Contains, count_by, slice_index_or, slice_set}
use Rattle.std.specs.List.{AllPairs}
use Rattle.deleter.specs.plain_state.declared.slot.SlotId.{SlotId}
use Rattle.deleter.specs.plain_state.declared.image.Heap.{Heap}
use Rattle.heap_audit.specs.Heaps.{slot}
use Rattle.heap_audit.specs.Reached.{HasField, IsRoot, IsReached}

abbrev pub is_marked : List Bool → SlotId → Bool
is_marked marks s = slice_index_or marks s.0 false

-- s is marked, and stands at the end of the list; nothing changes where it was marked before
abbrev pub Adds : List Bool → List SlotId → SlotId → List Bool → List SlotId → Type 0
Adds marks slots s marks' slots' =
    ((is_marked marks s ≡ true) × (marks' ≡ marks) × (slots' ≡ slots))
    ⊎ ((is_marked marks s ≡ false) × (marks' ≡ slice_set marks s.0 true) × (slots' ≡ slots ++ s ∷ []))

-- the slot that the word names is marked so, if it names one
abbrev pub Follows : List Bool → List SlotId → ℕ → List Bool → List SlotId → Type 0
Follows marks slots word marks' slots' =
    ((word ≡ 0) × (marks' ≡ marks) × (slots' ≡ slots))
    ⊎ ((s : SlotId) × (word ≡ s.0 + 1) × Adds marks slots s marks' slots')

-- the list has each slot that is marked, once, and no other
pub record IsMarking (marks : List Bool) (slots : List SlotId) : Type 0 where
  pub listed : (s : SlotId) → is_marked marks s ≡ true → Contains slots s
  pub marked : All (λ s. is_marked marks s ≡ true) slots
  pub once : AllPairs (λ (a b : SlotId). a ≢ b) slots
  pub many : length slots ≡ count_by (λ mark. mark) marks

-- every root among the first `done` slots is marked, and what is marked is reached
pub record IsRooted (heap : Heap) (marks : List Bool) (slots : List SlotId) (done : ℕ) : Type 0 where
  pub size : length marks ≡ length heap.slots.items
  pub marking : IsMarking marks slots
  pub roots : (s : SlotId) → s.0 < done → IsRoot heap s → is_marked marks s ≡ true
  pub sound : (s : SlotId) → is_marked marks s ≡ true → IsReached heap s

-- every root is marked, what is marked is reached, and so is what the first `done` slots of the list hold
pub record IsSpread (heap : Heap) (marks : List Bool) (slots : List SlotId) (done : ℕ) : Type 0 where
  pub size : length marks ≡ length heap.slots.items
  pub marking : IsMarking marks slots
  pub roots : (s : SlotId) → IsRoot heap s → is_marked marks s ≡ true
  pub sound : (s : SlotId) → is_marked marks s ≡ true → IsReached heap s
  pub spread : (k : ℕ) (t : SlotId) → k < done
      → HasField heap (slice_index_or slots k (slot 0)) t → is_marked marks t ≡ true
