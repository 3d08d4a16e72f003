-- The whole text that the numbers of some files give.
use Rattle.std.specs.Prelude.{◌≡◌, ℕ, List, ◌++◌, flat_map, length}
use Rattle.number_text.specs.declared.row.IndexTotals.{IndexTotals}
use Rattle.number_text.specs.Counts.{AreDistinct, all_numbers, all_skipped, occurrences_in}
use Rattle.number_text.specs.Report.{closing_lines, count_line}

-- each distinct number has one node, of one byte, while they are held, and nothing is left then
abbrev pub totals_in : List ℕ → List (List ℕ) → IndexTotals
totals_in numbers files = record {
  files = length files;
  numbers = length (all_numbers files);
  skipped = all_skipped files;
  held =
      record { live = length numbers; deferred = 0; cyclic = 0; bytes = length numbers };
  freed = record { live = 0; deferred = 0; cyclic = 0; bytes = 0 };
}

-- the text with these distinct numbers: a line for each, and the closing lines
abbrev pub index_in : List ℕ → List (List ℕ) → List ℕ
index_in numbers files =
    flat_map (λ n. count_line (occurrences_in n files) n) numbers
    ++ closing_lines (length numbers) (totals_in numbers files)

-- the bytes are the index of the files' distinct numbers
pub record IsIndex (files : List (List ℕ)) (bytes : List ℕ) : Type 0 where
  pub numbers : List ℕ
  pub distinct : AreDistinct files numbers
  pub written : bytes ≡ index_in numbers files
