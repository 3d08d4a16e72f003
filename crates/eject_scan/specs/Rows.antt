-- Where a word stands in rows, or would.
use Rattle.std.specs.Prelude.{ℕ, ◌≡◌, ◌<◌, ◌≤◌, List, length, slice_index_or}
use Rattle.eject_scan.specs.declared.seen.Row.{Row}

abbrev pub word_at : List Row → ℕ → ℕ
word_at rows i = (slice_index_or rows i (record { word = 0; times = 0 })).word

-- the rows before i have lesser words
abbrev pub IsBehind : ℕ → List Row → ℕ → Type 0
IsBehind w rows i = (k : ℕ) → k < i → word_at rows k < w

-- its row stands at i
pub record StandsAt (w : ℕ) (rows : List Row) (i : ℕ) : Type 0 where
  pub within : i < length rows
  pub here : word_at rows i ≡ w
  pub before : IsBehind w rows i

-- it has no row, and one would stand at i
pub record IsGap (w : ℕ) (rows : List Row) (i : ℕ) : Type 0 where
  pub within : i ≤ length rows
  pub before : IsBehind w rows i
  pub behind : (k : ℕ) → i ≤ k → k < length rows → w < word_at rows k
