-- How often the words of some files occur, and in how many files. A file is told by its pieces.
use Rattle.std.specs.Prelude.{ℕ, ◌*◌, ◌<◌, ◌↔◌, nat_lt, List}
use Rattle.std.specs.Cmp.Lexicographic.{slice_cmp}
use Rattle.std.specs.List.{Contains, count_by, sum_by}
use Rattle.std.specs.List.Sorted.{IsStrictlySortedBy}
use Rattle.std.specs.Ordering.{nat_cmp}
use Rattle.std.specs.Str.{bytes_eq}

-- a file, as its pieces
abbrev pub File : Type 0
File = List (List ℕ)

-- how many of the words are w
abbrev pub times : List ℕ → List (List ℕ) → ℕ
times w words = count_by (bytes_eq w) words

-- how often w occurs in so many rounds: the rounds, times its equal pieces over all files
abbrev pub occurrences_in : List ℕ → ℕ → List File → ℕ
occurrences_in w rounds files = rounds * sum_by (λ (f : File). times w f) files

-- how many files, by their places, have w among their pieces
abbrev pub holders_in : List ℕ → List File → ℕ
holders_in w files = count_by (λ (f : File). nat_lt 0 (times w f)) files

-- the words are in byte order
abbrev pub IsInByteOrder : List (List ℕ) → Type 0
IsInByteOrder = IsStrictlySortedBy (slice_cmp nat_cmp)

-- the distinct words: those with a holder, each once, in byte order
pub record AreDistinct (files : List File) (words : List (List ℕ)) : Type 0 where
  pub in_order : IsInByteOrder words
  pub held : (w : List ℕ) → Contains words w ↔ (0 < holders_in w files)
