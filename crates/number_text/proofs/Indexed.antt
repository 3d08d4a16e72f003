-- Rows that tell their counts are written as the index of the files.
use Rattle.std.proofs.Common.{◌≡◌, ℕ, List, ◌++◌, length, sym, ap, ◌∙◌}
use Rattle.std.proofs.lemmas.List.{length-map}
use Rattle.std.specs.List.{flat_map}
use Rattle.number_text.proofs.Counted.{distinct-told, lines-told}
use Rattle.number_text.specs.Counts.{TellCounts, numbers_in, occurrences_in}
use Rattle.number_text.specs.declared.row.CountOf.{CountOf}
use Rattle.number_text.specs.declared.row.IndexTotals.{IndexTotals}
use Rattle.number_text.specs.Index.{IsIndex, totals_in}
use Rattle.number_text.specs.Report.{closing_lines, count_line, index_of}

pub index-told : (files : List (List ℕ)) (rows : List CountOf) (totals : IndexTotals) → TellCounts files rows
    → totals ≡ totals_in (numbers_in rows) files → IsIndex files (index_of rows totals)
unfolding index_of
index-told files rows totals tells same =
    let distinct : length rows ≡ length (numbers_in rows) = sym (length-map rows (λ (row : CountOf). row.number)) in
    let lines = flat_map (λ n. count_line (occurrences_in n files) n) (numbers_in rows) in
    record {
      numbers = numbers_in rows;
      distinct = distinct-told files rows tells;
      written = ap (λ first. first ++ closing_lines (length rows) totals) (lines-told files rows tells)
          ∙ ap (λ n. lines ++ closing_lines n totals) distinct
          ∙ ap (λ t. lines ++ closing_lines (length (numbers_in rows)) t) same;
    }
