-- Which cells and payloads belong to which part of a pair.
use Rattle.std.specs.Prelude.{ℕ, ◌≡◌, ◌<◌, ◌≤◌, ◌⊎◌, ◌==◌, List, slice_index, if◌then◌else◌}
use Rattle.plain_protocol.specs.Acts.{Owned}

-- the left part's payloads have 0 in word 0, and the right part's don't
abbrev pub IsLeftPayload : List ℕ → Type 0
IsLeftPayload words = slice_index words 0 ≡ 0

-- what the left part owns is the left part's: it is below the bounds, or such a payload
pub record IsLeft (strong weak : ℕ) (owned : Owned) : Type 0 where
  pub cells : (i : ℕ) → owned.cell i → i < strong
  pub weak_cells : (i : ℕ) → owned.weak_cell i → i < weak
  pub payloads : (words : List ℕ) → owned.payload words → IsLeftPayload words

-- what the right part owns is the right part's: all other cells and payloads
pub record IsRight (strong weak : ℕ) (owned : Owned) : Type 0 where
  pub cells : (i : ℕ) → owned.cell i → strong ≤ i
  pub weak_cells : (i : ℕ) → owned.weak_cell i → weak ≤ i
  pub payloads : (words : List ℕ) → owned.payload words → ¬ (IsLeftPayload words)

abbrev pub owned_of : (ℕ → Type 0) → (ℕ → Type 0) → (List ℕ → Type 0) → Type 0 → Owned
owned_of cell weak_cell payload tickets =
    record { cell = cell; weak_cell = weak_cell; payload = payload; tickets = tickets }

-- what two own together
abbrev pub either_of : Owned → Owned → Owned
either_of a b = record {
  cell = λ i. a.cell i ⊎ b.cell i;
  weak_cell = λ i. a.weak_cell i ⊎ b.weak_cell i;
  payload = λ words. a.payload words ⊎ b.payload words;
  tickets = a.tickets ⊎ b.tickets;
}

-- the payload fits the kind of the part whose it is
abbrev pub FitsItsPart : (List ℕ → Type 0) → (List ℕ → Type 0) → List ℕ → Type 0
FitsItsPart left right words =
    (IsLeftPayload words → left words) × (¬ (IsLeftPayload words) → right words)

-- and it weighs what it weighs there
abbrev pub weight_in_part : (List ℕ → ℕ) → (List ℕ → ℕ) → List ℕ → ℕ
weight_in_part left right words = if slice_index words 0 == 0 then left words else right words
