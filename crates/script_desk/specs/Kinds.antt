-- The payloads of a script's objects.
use Rattle.std.specs.Prelude.{ℕ, ◌≡◌, ◌≤◌, ◌^◌, List, ◌∷◌, replicate, slice_index}
use Rattle.std.proofs.Common.{ap, arith}

-- a number of at most 2^32, and fifteen words of 0
abbrev pub script_payload : ℕ → List ℕ
script_payload w = w ∷ replicate 15 0

abbrev pub IsScriptPayload : List ℕ → Type 0
IsScriptPayload words = (w : ℕ) × (w ≤ 2 ^ 32) × (words ≡ script_payload w)

-- it weighs its number
abbrev pub script_weight : List ℕ → ℕ
script_weight words = slice_index words 0

pub script_bounded : (words : List ℕ) → IsScriptPayload words → script_weight words ≤ 2 ^ 32
script_bounded words (w, most, e) = omega (arith, ap script_weight e)
