-- Tables that have one entry for each slot of a heap.
use Rattle.std.specs.Prelude.{ℕ, ◌≡◌, ◌≢◌, ◌<◌, ◌+◌, Contains, Bool, true, List, ◌∷◌, ◌++◌, length, slice_index, slice_index_or, reverse, Option, Some, None, nat_le, if◌then◌else◌}
use Rattle.std.specs.List.{AllPairs}
use Rattle.deleter.specs.plain_state.declared.slot.SlotId.{SlotId}
use Rattle.deleter.specs.plain_state.declared.image.SlotImage.{SlotImage}
use Rattle.deleter.specs.plain_state.declared.image.Heap.{Heap}
use Rattle.heap_audit.specs.Heaps.{names, held, fields_holding, in_fields}
use Rattle.heap_audit.specs.Paths.{Path}
use Rattle.heap_audit.specs.Reached.{HasField, IsReached, IsUnreached}
use Rattle.heap_audit.specs.Walks.{rank_of, IsLeast, IsTurned, BeginsLeast}
use Rattle.heap_audit.specs.Marking.{is_marked}

-- one more for each slot that the word names
abbrev pub CountsWord : ℕ → List ℕ → List ℕ → Type 0
CountsWord word old new =
    (s : SlotId) → s.0 < length old → slice_index new s.0 ≡ slice_index old s.0 + held s word

abbrev pub CountsFields : SlotImage → List ℕ → List ℕ → Type 0
CountsFields x old new =
    (s : SlotId) → s.0 < length old → slice_index new s.0 ≡ slice_index old s.0 + fields_holding s x

-- how many strong fields hold each slot
pub record AreFieldCounts (heap : Heap) (counts : List ℕ) : Type 0 where
  pub size : length counts ≡ length heap.slots.items
  pub counted : (s : SlotId) → s.0 < length heap.slots.items → slice_index counts s.0 ≡ in_fields heap s

-- whether each slot is reached
pub record AreReached (heap : Heap) (marks : List Bool) : Type 0 where
  pub size : length marks ≡ length heap.slots.items
  pub sound : (s : SlotId) → is_marked marks s ≡ true → IsReached heap s
  pub whole : (s : SlotId) → IsReached heap s → is_marked marks s ≡ true

-- the best so far, unless s is of lower rank or there is none yet
abbrev pub lower_of : List ℕ → Option SlotId → SlotId → SlotId
lower_of ranks None s = s
lower_of ranks (Some best) s = if nat_le (rank_of ranks best) (rank_of ranks s) then best else s

-- the slot of least rank with the property, if any has it
abbrev pub IsLeastIfAny : List ℕ → (SlotId → Type 0) → Option SlotId → Type 0
IsLeastIfAny ranks P None = (s : SlotId) → P s → ⊥
IsLeastIfAny ranks P (Some s) = IsLeast ranks P s

abbrev pub holder_at : List (Option SlotId) → SlotId → Option SlotId
holder_at holders s = slice_index_or holders s.0 None

-- holder is offered to the slot that the word names, if it names one
abbrev pub Offers : List ℕ → ℕ → SlotId → List (Option SlotId) → List (Option SlotId) → Type 0
Offers ranks word holder old new =
    (s : SlotId) → s.0 < length old
    → holder_at new s ≡ (if names s word then Some (lower_of ranks (holder_at old s) holder) else holder_at old s)

-- for each slot the unreached slot of least rank that has a strong field holding it
pub record AreHolders (heap : Heap) (ranks : List ℕ) (holders : List (Option SlotId)) : Type 0 where
  pub size : length holders ≡ length heap.slots.items
  pub least : (s : SlotId) → s.0 < length heap.slots.items
      → IsLeastIfAny ranks (λ u. IsUnreached heap u × HasField heap u s) (holder_at holders s)

-- the table leads from s to t
abbrev pub LeadsBy : List (Option SlotId) → SlotId → SlotId → Type 0
LeadsBy holders s t = holder_at holders s ≡ Some t

-- the search goes from start by way of the other slots, each once, and then to `again`, which is one of them
pub record Searched (holders : List (Option SlotId)) (start : SlotId) (slots : List SlotId) (again : SlotId)
    : Type 0 where
  pub rest : List SlotId
  pub begins : slots ≡ start ∷ rest
  pub goes : Path (LeadsBy holders) start rest again
  pub once : AllPairs (λ (a b : SlotId). a ≢ b) slots
  pub came : Contains slots again

-- the slots are some, then `again`, then more; the walk is `again` and these, the other way round, from the least rank
abbrev pub TurnsRound : List ℕ → List SlotId → SlotId → List SlotId → Type 0
TurnsRound ranks slots again walk =
    (earlier : List SlotId) × (between : List SlotId) × (slots ≡ earlier ++ again ∷ between)
    × IsTurned walk (reverse (again ∷ between)) × BeginsLeast ranks walk
