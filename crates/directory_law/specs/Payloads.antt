-- The payloads of heads and parts, as far as the law reads them: word 0 tells what a slot is, and how many bytes it
-- has.
use Rattle.std.specs.Prelude.{◌≡◌, ℕ, ◌+◌, ◌-◌, ◌<◌, ◌≤◌, List, [], ◌∷◌, slice_index}

-- a text as its slots have it: the payload of the head, and those of the parts
abbrev pub Text : Type 0
Text = List (List ℕ)

abbrev pub size : List ℕ → ℕ
size payload = slice_index payload 0

-- of a head, word 0 is the length of the text
abbrev pub IsHead : List ℕ → Type 0
IsHead payload = (0 < size payload) × (size payload ≤ 4096)

-- of a part, it is the number of the part's bytes and 65536
abbrev pub IsPart : List ℕ → Type 0
IsPart payload = 65536 < size payload

-- what a directory owns
abbrev pub IsOwn : List ℕ → Type 0
IsOwn payload = 0 < size payload

-- a part of k of n bytes: 120, or all where they are fewer
abbrev pub IsCut : ℕ → ℕ → List ℕ → Type 0
IsCut n k payload = (size payload ≡ 65536 + k) × (0 < k) × (k ≤ 120) × (k ≤ n) × (k < 120 → k ≡ n)

-- the parts of n bytes
abbrev pub IsRest : ℕ → Text → Type 0
IsRest n [] = n ≡ 0
IsRest n (t ∷ ts) = (k : ℕ) × IsCut n k t × IsRest (n - k) ts

-- a head, and the parts of what its 120 bytes leave
abbrev pub IsText : Text → Type 0
IsText [] = ⊥
IsText (t ∷ ts) = IsHead t × IsRest (size t - 120) ts
