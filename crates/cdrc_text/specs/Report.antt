-- The lines of a report, over any rows and totals.
use Rattle.std.specs.Prelude.{ℕ, List, ◌++◌, length, codes}
use Rattle.std.specs.Fmt.{decimal}
use Rattle.std.specs.List.{flat_map}
use Rattle.cdrc_text.specs.declared.row.AuditLine.{AuditLine}
use Rattle.cdrc_text.specs.declared.row.Row.{Row}
use Rattle.cdrc_text.specs.declared.row.Totals.{Totals}

-- `OCCURRENCES HOLDERS WORD` and a line feed
abbrev pub word_line : ℕ → ℕ → List ℕ → List ℕ
word_line occurrences holders word =
    decimal occurrences ++ codes " " ++ decimal holders ++ codes " " ++ word ++ codes "\n"

-- `files F pieces P distinct D` and a line feed
abbrev pub files_line : ℕ → ℕ → ℕ → List ℕ
files_line files pieces distinct =
    codes "files " ++ decimal files ++ codes " pieces " ++ decimal pieces
    ++ codes " distinct " ++ decimal distinct ++ codes "\n"

-- `NAME live L deferred E cyclic C bytes Y` and a line feed
abbrev pub audit_line : List ℕ → AuditLine → List ℕ
audit_line name audit =
    name ++ codes " live " ++ decimal audit.live ++ codes " deferred " ++ decimal audit.deferred
    ++ codes " cyclic " ++ decimal audit.cyclic
    ++ codes " bytes " ++ decimal audit.bytes ++ codes "\n"

-- the line of a row
abbrev pub row_line : Row → List ℕ
row_line row = word_line row.occurrences row.holders row.word.now

-- the three lines after the words
abbrev pub closing_lines : ℕ → Totals → List ℕ
closing_lines distinct totals =
    files_line totals.files totals.pieces distinct
    ++ audit_line (codes "held") totals.held ++ audit_line (codes "freed") totals.freed

-- a line for each row, in the rows' order, and then the three closing lines
unfoldable pub report_of : List Row → Totals → List ℕ
report_of rows totals = flat_map row_line rows ++ closing_lines (length rows) totals
