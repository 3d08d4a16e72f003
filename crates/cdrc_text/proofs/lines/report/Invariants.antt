use Rattle.std.proofs.Common.{◌≡◌, take}
use Rattle.std.specs.List.{flat_map}
use Rattle.cdrc_text.specs.Report.{row_line}
use Rattle.cdrc_text.proofs.lines.report.Given as goal

-- the lines of the first rows are written
abbrev pub invariant-loop-row : goal.invariant-loop-row
invariant-loop-row l = l.text.items ≡ flat_map row_line (take l.row-index l.rows)
