-- Walks round a cycle of strong fields, and the one that an audit finds.
use Rattle.std.specs.Prelude.{ℕ, ◌≡◌, ◌≢◌, ◌<◌, ◌≤◌, List, [], ◌∷◌, ◌++◌, length, reverse, All, slice_index}
use Rattle.std.specs.List.{AllPairs}
use Rattle.deleter.specs.plain_state.declared.slot.SlotId.{SlotId}
use Rattle.deleter.specs.plain_state.declared.image.Heap.{Heap}
use Rattle.heap_audit.specs.Paths.{Path}
use Rattle.heap_audit.specs.Reached.{HasField, IsUnreached}

-- each holds the next, the last one the first
abbrev pub GoesRound : (SlotId → SlotId → Type 0) → List SlotId → Type 0
GoesRound Holds [] = ⊥
GoesRound Holds (x ∷ xs) = Path Holds x xs x

-- each has a strong field that holds the next, the last one the first
abbrev pub IsWalk : Heap → List SlotId → Type 0
IsWalk heap walk = GoesRound (HasField heap) walk

abbrev pub rank_of : List ℕ → SlotId → ℕ
rank_of ranks s = slice_index ranks s.0

-- s has the property, and none that has it is of lower rank
abbrev pub IsLeast : List ℕ → (SlotId → Type 0) → SlotId → Type 0
IsLeast ranks P s = P s × ((t : SlotId) → P t → rank_of ranks s ≤ rank_of ranks t)

-- no two slots of the heap have one rank
abbrev pub HasDistinctRanks : Heap → List ℕ → Type 0
HasDistinctRanks heap ranks =
    (s t : SlotId) → s.0 < length heap.slots.items → t.0 < length heap.slots.items
    → rank_of ranks s ≡ rank_of ranks t → s ≡ t

-- from s the search among slots with the property P goes to t: of those that hold s, the one of least rank
abbrev pub GoesTo : (SlotId → Type 0) → (SlotId → SlotId → Type 0) → List ℕ → SlotId → SlotId → Type 0
GoesTo P Holds ranks s t = IsLeast ranks (λ u. P u × Holds u s) t

-- xs, begun at another place and gone round
abbrev pub IsTurned : List SlotId → List SlotId → Type 0
IsTurned xs ys =
    (front : List SlotId) × (back : List SlotId) × (ys ≡ front ++ back) × (xs ≡ back ++ front)

-- its first slot has the least rank
abbrev pub BeginsLeast : List ℕ → List SlotId → Type 0
BeginsLeast ranks [] = ⊥
BeginsLeast ranks (x ∷ xs) = All (λ s. rank_of ranks x ≤ rank_of ranks s) xs

-- the walk that the search among slots with the property P finds
pub record IsFoundAmong (P : SlotId → Type 0) (Holds : SlotId → SlotId → Type 0) (ranks : List ℕ)
    (walk : List SlotId) : Type 0 where
  -- it begins with the one of least rank
  pub start : SlotId
  pub least : IsLeast ranks P start
  -- it goes on by way of these, and then to `again`
  pub rest : List SlotId
  pub again : SlotId
  pub goes : Path (GoesTo P Holds ranks) start rest again
  -- up to there no slot came twice, but `again` came before
  pub once : AllPairs (λ (a b : SlotId). a ≢ b) (start ∷ rest)
  pub earlier : List SlotId
  pub between : List SlotId
  pub came : start ∷ rest ≡ earlier ++ again ∷ between
  -- the slots between its two comings are the walk, each holding the next, beginning with the least rank
  pub turned : IsTurned walk (reverse (again ∷ between))
  pub begins : BeginsLeast ranks walk

-- the walk that an audit finds: among the unreached slots, along strong fields
abbrev pub IsFound : Heap → List ℕ → List SlotId → Type 0
IsFound heap ranks walk = IsFoundAmong (IsUnreached heap) (HasField heap) ranks walk
