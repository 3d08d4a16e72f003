-- The whole text that a count of words gives.
use Rattle.std.specs.Prelude.{◌≡◌, ℕ, List, ◌++◌, length, map}
use Rattle.std.specs.Int.{div_ceil}
use Rattle.std.specs.List.{flat_map, sum_by}
use Rattle.cdrc_text.specs.declared.row.Row.{Row}
use Rattle.cdrc_text.specs.declared.row.Totals.{Totals}
use Rattle.cdrc_text.specs.Fold.{AreDistinct, File, holders_in, occurrences_in}
use Rattle.cdrc_text.specs.Pieces.{pieces_of}
use Rattle.cdrc_text.specs.Report.{closing_lines, word_line}

-- the slots of a word's record: one for each 120 bytes
abbrev pub slots_of_word : List ℕ → ℕ
slots_of_word w = div_ceil (length w) 120

-- each distinct word has one record while they are held, and nothing is left then
abbrev pub totals_in : List (List ℕ) → List File → Totals
totals_in words files = record {
  files = length files;
  pieces = sum_by (λ (f : File). length f) files;
  held = record {
    live = sum_by slots_of_word words;
    deferred = 0;
    cyclic = 0;
    bytes = sum_by (λ (w : List ℕ). length w) words;
  };
  freed = record { live = 0; deferred = 0; cyclic = 0; bytes = 0 };
}

-- the report with these distinct words: a line for each, and the closing lines
abbrev pub report_in : List (List ℕ) → List File → ℕ → List ℕ
report_in words files rounds =
    flat_map (λ w. word_line (occurrences_in w rounds files) (holders_in w files) w) words
    ++ closing_lines (length words) (totals_in words files)

-- the bytes are the report of the files' distinct words
pub record IsReport (files : List File) (rounds : ℕ) (bytes : List ℕ) : Type 0 where
  pub words : List (List ℕ)
  pub distinct : AreDistinct files words
  pub written : bytes ≡ report_in words files rounds

-- the same of files that are told by their bytes: the text of some contents
abbrev pub IsText : List (List ℕ) → ℕ → List ℕ → Type 0
IsText contents rounds bytes = IsReport (map pieces_of contents) rounds bytes

-- the word of a row
abbrev pub word_of : Row → List ℕ
word_of row = row.word.now

-- the row has the numbers of its word
abbrev pub IsRowOf : List File → ℕ → Row → Type 0
IsRowOf files rounds row =
    (row.occurrences ≡ occurrences_in (word_of row) rounds files)
    × (row.holders ≡ holders_in (word_of row) files)
