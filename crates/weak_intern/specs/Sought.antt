-- What a walk looks for, and what a kind of payloads tells of it.
use Rattle.std.specs.Prelude.{ℕ, ◌≡◌, ◌<◌, ◌^◌, List, ◌∷◌, length}
use Rattle.record_making.specs.directory_law.Payloads.{IsOwn, Text, size}
use Rattle.record_making.specs.directory_law.Bytes.{AreBytes, IsPiece, IsTextOf}
use Rattle.record_making.specs.directory_law.Places.{text_hash}
use Rattle.record_making.specs.Texts.{text_of}

-- the text of these bytes begins with this head, and its place is taken from this number
pub record IsSought (bytes head : List ℕ) (hash : ℕ) : Type 0 where
  pub small_bytes : AreBytes bytes
  pub text : IsTextOf bytes (text_of bytes)
  pub begins : (tail : Text) × (text_of bytes ≡ head ∷ tail)
  pub words : length head ≡ 16
  pub size : size head ≡ length bytes
  pub place : text_hash (text_of bytes) ≡ hash
  pub small : hash < 2 ^ 32

-- what fits the kind and is a directory's is the payload of a head or of a part
abbrev pub HasPieces : (List ℕ → Type 0) → Type 0
HasPieces fits = (words : List ℕ) → fits words → IsOwn words → IsPiece words
