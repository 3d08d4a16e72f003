-- How often each number occurs over some files. A file is told by its bytes.
use Rattle.std.specs.Prelude.{◌≡◌, ℕ, ◌<◌, ◌==◌, ◌↔◌, All, Contains, List, [], ◌∷◌, count_by, flat_map, map, sum_by, if◌then◌else◌}
use Rattle.std.specs.List.Sorted.{IsStrictlyIncreasing}
use Rattle.number_text.specs.declared.row.CountOf.{CountOf}
use Rattle.number_text.specs.Numbers.{numbers_of, skipped_of}

-- the numbers of all files, with repetition
abbrev pub all_numbers : List (List ℕ) → List ℕ
all_numbers files = flat_map numbers_of files

-- how many fields of all files are no numbers
abbrev pub all_skipped : List (List ℕ) → ℕ
all_skipped files = sum_by skipped_of files

-- how many of the numbers are n
abbrev pub times : ℕ → List ℕ → ℕ
times n numbers = count_by (λ m. n == m) numbers

-- how often n occurs over all files
abbrev pub occurrences_in : ℕ → List (List ℕ) → ℕ
occurrences_in n files = times n (all_numbers files)

-- the distinct numbers: those that occur, each once, ascending
pub record AreDistinct (files : List (List ℕ)) (numbers : List ℕ) : Type 0 where
  pub ascending : IsStrictlyIncreasing numbers
  pub occurring : (n : ℕ) → Contains numbers n ↔ (0 < occurrences_in n files)

-- the numbers of some rows
abbrev pub numbers_in : List CountOf → List ℕ
numbers_in rows = map (λ (row : CountOf). row.number) rows

-- how often the rows tell n, 0 where no row is of n
unfoldable pub count_for : ℕ → List CountOf → ℕ
count_for n [] = 0
count_for n (row ∷ rows) = if row.number == n then row.count else count_for n rows

-- the rows tell each number as often as it occurs, each number once, ascending
pub record TellCounts (files : List (List ℕ)) (rows : List CountOf) : Type 0 where
  pub ascending : IsStrictlyIncreasing (numbers_in rows)
  pub counts : (n : ℕ) → count_for n rows ≡ occurrences_in n files
  pub positive : All (λ (row : CountOf). 0 < row.count) rows
