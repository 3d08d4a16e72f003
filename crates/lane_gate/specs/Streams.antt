-- What is read from a reader of bytes, where it tells what it has left.
use Rattle.std.specs.Prelude.{◌≡◌, ℕ, ◌+◌, ◌≤◌, List, ◌++◌, length}
use Rattle.std.specs.Io.KnownBytes.{Consumes, IsAtEnd}
use Rattle.std.specs.declared.option.Option.{Option}

-- `old` has grown by the `count` bytes that the reader gave, and those the reader has left behind
abbrev pub Moved : ℕ → Option (List ℕ) → Option (List ℕ) → List ℕ → List ℕ → Type 0
Moved count before left old new =
    (bytes : List ℕ) × (length bytes ≡ count) × (new ≡ old ++ bytes) × Consumes before left bytes

-- `old` has grown by all that the reader had, which was at most `limit` bytes
abbrev pub MovedAll : ℕ → Option (List ℕ) → Option (List ℕ) → List ℕ → List ℕ → Type 0
MovedAll limit before left old new =
    (count : ℕ) × (count ≤ limit) × Moved count before left old new × IsAtEnd left

-- the reader gave one byte more than `limit`, and was not asked for another
abbrev pub GavePast : ℕ → Option (List ℕ) → Option (List ℕ) → Type 0
GavePast limit before left =
    (bytes : List ℕ) × (length bytes ≡ limit + 1) × Consumes before left bytes
