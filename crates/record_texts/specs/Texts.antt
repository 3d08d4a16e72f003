-- The text that some bytes have.
use Rattle.std.specs.Prelude.{ℕ, zero, suc, ◌+◌, ◌-◌, List, [], ◌∷◌, take, drop, length}
use Rattle.std.specs.Int.{div_ceil}
use Rattle.plain_state.specs.Records.{word_of_bytes}
use Rattle.directory_law.specs.Payloads.{Text}

-- so many words with eight bytes each, the first byte lowest, and then zeros
unfoldable pub words_of : ℕ → List ℕ → List ℕ
words_of zero bytes = []
words_of (suc n) bytes = word_of_bytes (take 8 bytes) ∷ words_of n (drop 8 bytes)

-- a payload with n in word 0, and with these bytes
unfoldable pub payload_of : ℕ → List ℕ → List ℕ
payload_of n bytes = n ∷ words_of 15 bytes

-- the payload of the part with the first 120 of these bytes
abbrev pub part_of : List ℕ → List ℕ
part_of bytes = payload_of (65536 + length (take 120 bytes)) (take 120 bytes)

-- so many parts
unfoldable pub parts_of : ℕ → List ℕ → Text
parts_of zero bytes = []
parts_of (suc n) bytes = part_of bytes ∷ parts_of n (drop 120 bytes)

-- how many parts follow a head with the first 120 of n bytes
abbrev pub parts_after : ℕ → ℕ
parts_after n = div_ceil (n - 120) 120

-- the text of 1 to 4096 bytes
unfoldable pub text_of : List ℕ → Text
text_of bytes =
    payload_of (length bytes) (take 120 bytes)
    ∷ parts_of (parts_after (length bytes)) (drop 120 bytes)
