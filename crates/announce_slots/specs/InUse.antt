-- Which of a seat's snapshot words are in use: its announcement words 1, 2 and 3. Word 0 serves loads.
use Rattle.std.specs.Prelude.{ℕ, ◌≤◌, ◌<◌, ◌≡◌, zero, suc, Bool, true, false, List, slice_index_or}

abbrev pub IsSnapshotWord : ℕ → Type 0
IsSnapshotWord word = (1 ≤ word) × (word ≤ 3)

-- whether a word is in use, by a list that tells it of word 1 and up
abbrev pub is_used : List Bool → ℕ → Bool
is_used used zero = false
is_used used (suc place) = slice_index_or used place false

-- all three are in use
abbrev pub IsFull : List Bool → Type 0
IsFull used = (word : ℕ) → IsSnapshotWord word → is_used used word ≡ true

-- the word is free, and each one before it is in use
abbrev pub IsLeastFree : List Bool → ℕ → Type 0
IsLeastFree used word =
    IsSnapshotWord word × (is_used used word ≡ false)
    × ((other : ℕ) → 1 ≤ other → other < word → is_used used other ≡ true)

-- no word but this one has changed
abbrev pub SameBut : ℕ → List Bool → List Bool → Type 0
SameBut word old new = (other : ℕ) → (other ≡ word → ⊥) → is_used new other ≡ is_used old other
