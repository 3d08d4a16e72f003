-- A text as the payload of an object.
use Rattle.std.proofs.Common.{arith}
use Rattle.std.specs.Prelude.{ℕ, ◌≡◌, ◌^◌, ◌+◌, ◌*◌, ◌<◌, ◌≤◌, List, [], ◌∷◌, All, length, take, drop, slice_index}

-- up to eight bytes as a word, the first byte lowest
abbrev pub word_of_bytes : List ℕ → ℕ
word_of_bytes [] = 0
word_of_bytes (byte ∷ bytes) = byte + 256 * word_of_bytes bytes

-- bytes 8k to 8k + 7 of a text, as far as they are there
abbrev pub eight_bytes : List ℕ → ℕ → List ℕ
eight_bytes text k = take 8 (drop (8 * k) text)

-- word 0 is the text's length, and the fifteen words after it hold the text, eight bytes each
pub record IsRecordOf (text payload : List ℕ) : Type 0 where
  pub words : length payload ≡ 16
  pub size : slice_index payload 0 ≡ length text
  pub bytes : (k : ℕ) → k < 15 → slice_index payload (k + 1) ≡ word_of_bytes (eight_bytes text k)

-- 1 to 120 bytes
pub record IsText (text : List ℕ) : Type 0 where
  pub least : 1 ≤ length text
  pub most : length text ≤ 120
  pub bytes : All (λ byte. byte < 256) text

-- the payload of some text
abbrev pub IsRecord : List ℕ → Type 0
IsRecord payload = (text : List ℕ) × IsText text × IsRecordOf text payload

-- what a record weighs: the length of its text
abbrev pub record_weight : List ℕ → ℕ
record_weight payload = slice_index payload 0

pub record_bounded : (words : List ℕ) → IsRecord words → record_weight words ≤ 2 ^ 32
record_bounded words (text, t, r) = omega (arith, t.most, r.size)

-- the payload has a text, and no other one
abbrev pub HasOneText : List ℕ → Type 0
HasOneText payload =
    (text : List ℕ) × IsText text × IsRecordOf text payload
    × ((other : List ℕ) → IsText other → IsRecordOf other payload → other ≡ text)
