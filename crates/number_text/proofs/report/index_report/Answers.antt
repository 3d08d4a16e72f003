use Rattle.std.proofs.Common.{◌++◌, length, ap, ◌∙◌, arith}
use Rattle.std.proofs.lemmas.List.{take_all}
use Rattle.std.specs.List.{flat_map}
use Rattle.number_text.specs.Report.{closing_lines, index_of, row_line}
use Rattle.number_text.proofs.report.index_report.Goals as goal

-- after the last row, the lines of all rows stand before the closing lines
pub returns : goal.returns
unfolding index_of
returns c =
    let rows = c.args.rows.now in
    let lines = c.loop-row.invariant ∙ ap (flat_map row_line) (take_all c.loop-row.row-index rows (omega arith)) in
    c.in_ok-push_closing.ensures ∙ ap (λ text. text ++ closing_lines (length rows) c.args.totals.now) lines
