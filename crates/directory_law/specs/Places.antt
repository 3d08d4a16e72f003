-- The number from which the place of a text is taken.
use Rattle.std.specs.Prelude.{ℕ, ◌+◌, ◌*◌, ◌%◌, ◌^◌, List, [], ◌∷◌}
use Rattle.directory_law.specs.Payloads.{Text}
use Rattle.directory_law.specs.Bytes.{text_bytes}

-- from h on, each byte in turn makes another number of it
abbrev pub hash_on : ℕ → List ℕ → ℕ
hash_on h [] = h
hash_on h (byte ∷ bytes) = hash_on ((257 * h + byte + 1) % 2 ^ 32) bytes

unfoldable pub text_hash : Text → ℕ
text_hash text = hash_on 0 (text_bytes text)
