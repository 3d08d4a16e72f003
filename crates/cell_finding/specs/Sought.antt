-- What a walk looks for.
use Rattle.std.specs.Prelude.{ℕ, ◌≡◌, ◌≤◌, ◌<◌, ◌^◌, List, length, take}
use Rattle.record_texts.specs.directory_law.Bytes.{AreBytes}
use Rattle.record_texts.specs.directory_law.Places.{text_hash}
use Rattle.record_texts.specs.Texts.{payload_of, text_of}

-- a text of 1 to 4,096 bytes, the payload of its head, and the number from which its place is taken
pub record IsSought (bytes head : List ℕ) (hash : ℕ) : Type 0 where
  pub small_bytes : AreBytes bytes
  pub sized : (1 ≤ length bytes) × (length bytes ≤ 4096)
  pub head_is : head ≡ payload_of (length bytes) (take 120 bytes)
  pub place : text_hash (text_of bytes) ≡ hash
  pub small : hash < 2 ^ 32
