-- The lines of an index, over any rows and totals.
use Rattle.std.specs.Prelude.{ℕ, List, ◌++◌, length, codes, decimal, flat_map}
use Rattle.cdrc_text.specs.Report.{audit_line}
use Rattle.number_text.specs.declared.row.CountOf.{CountOf}
use Rattle.number_text.specs.declared.row.IndexTotals.{IndexTotals}

-- `COUNT NUMBER` and a line feed
abbrev pub count_line : ℕ → ℕ → List ℕ
count_line count number = decimal count ++ codes " " ++ decimal number ++ codes "\n"

-- `files F numbers P distinct D skipped S` and a line feed
abbrev pub files_line : ℕ → ℕ → ℕ → ℕ → List ℕ
files_line files numbers distinct skipped =
    codes "files " ++ decimal files ++ codes " numbers " ++ decimal numbers
    ++ codes " distinct " ++ decimal distinct
    ++ codes " skipped " ++ decimal skipped ++ codes "\n"

-- the line of a row
abbrev pub row_line : CountOf → List ℕ
row_line row = count_line row.count row.number

-- the three lines after the numbers
abbrev pub closing_lines : ℕ → IndexTotals → List ℕ
closing_lines distinct totals =
    files_line totals.files totals.numbers distinct totals.skipped
    ++ audit_line (codes "held") totals.held ++ audit_line (codes "freed") totals.freed

-- a line for each row, in the rows' order, and then the three closing lines
unfoldable pub index_of : List CountOf → IndexTotals → List ℕ
index_of rows totals = flat_map row_line rows ++ closing_lines (length rows) totals
