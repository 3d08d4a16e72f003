-- Texts of bytes, and the payloads of their slots.
use Rattle.std.specs.Prelude.{◌≡◌, ◌⊎◌, ℕ, zero, suc, ◌+◌, ◌-◌, ◌%◌, ◌/◌, ◌<◌, ◌≤◌, min, nat_lt, List, [], ◌∷◌, ◌++◌, All, length, take, drop, slice_index, if◌then◌else◌}
use Rattle.plain_protocol.specs.plain_state.Limits.{words_of_payload}
use Rattle.plain_protocol.specs.plain_state.Records.{word_of_bytes, eight_bytes}
use Rattle.directory_law.specs.Payloads.{Text, size, IsHead}

abbrev pub AreBytes : List ℕ → Type 0
AreBytes bytes = All (λ byte. byte < 256) bytes

-- word 0 is n, and the fifteen words after it hold the bytes, eight in each, and then zeros
pub record Packs (n : ℕ) (bytes payload : List ℕ) : Type 0 where
  pub words : length payload ≡ words_of_payload
  pub size : slice_index payload 0 ≡ n
  pub eights : (k : ℕ) → k < 15 → slice_index payload (k + 1) ≡ word_of_bytes (eight_bytes bytes k)

-- the parts of some bytes: 120 in each, the last has the rest
abbrev pub ArePartsOf : List ℕ → Text → Type 0
ArePartsOf bytes [] = length bytes ≡ 0
ArePartsOf bytes (t ∷ ts) =
    (0 < length bytes) × Packs (65536 + length (take 120 bytes)) (take 120 bytes) t
    × ArePartsOf (drop 120 bytes) ts

-- the slots of 1 to 4096 bytes: the head has their number and the first 120
abbrev pub IsTextOf : List ℕ → Text → Type 0
IsTextOf bytes [] = ⊥
IsTextOf bytes (t ∷ ts) =
    (0 < length bytes) × (length bytes ≤ 4096) × Packs (length bytes) (take 120 bytes) t
    × ArePartsOf (drop 120 bytes) ts

-- the n lowest bytes of a word, the lowest first
abbrev pub low_bytes : ℕ → ℕ → List ℕ
low_bytes zero word = []
low_bytes (suc n) word = word % 256 ∷ low_bytes n (word / 256)

-- the first n bytes of some words
abbrev pub bytes_of_words : ℕ → List ℕ → List ℕ
bytes_of_words n [] = []
bytes_of_words n (word ∷ words) = low_bytes (min 8 n) word ++ bytes_of_words (n - 8) words

-- the n bytes that a payload holds
abbrev pub piece_bytes : ℕ → List ℕ → List ℕ
piece_bytes n payload = bytes_of_words n (drop 1 payload)

-- what an object weighs: of a head the number of its bytes, at most 120; of a part that of its own
abbrev pub piece_weight : List ℕ → ℕ
piece_weight payload =
    if nat_lt 65536 (size payload) then size payload - 65536 else min 120 (size payload)

abbrev pub part_bytes : Text → List ℕ
part_bytes [] = []
part_bytes (t ∷ ts) = piece_bytes (size t - 65536) t ++ part_bytes ts

-- the bytes of a text
abbrev pub text_bytes : Text → List ℕ
text_bytes [] = []
text_bytes (t ∷ ts) = piece_bytes (min 120 (size t)) t ++ part_bytes ts

-- a head with some bytes of a text, a part with some
abbrev pub IsHeadOf : List ℕ → List ℕ → Type 0
IsHeadOf bytes payload =
    IsHead payload × (length bytes ≡ min 120 (size payload)) × Packs (size payload) bytes payload

abbrev pub IsPartOf : List ℕ → List ℕ → Type 0
IsPartOf bytes payload =
    (0 < length bytes) × (length bytes ≤ 120) × Packs (65536 + length bytes) bytes payload

-- the payload of a head or of a part
abbrev pub IsPiece : List ℕ → Type 0
IsPiece payload =
    (bytes : List ℕ) × AreBytes bytes × (IsHeadOf bytes payload ⊎ IsPartOf bytes payload)
