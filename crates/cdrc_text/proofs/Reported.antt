-- A report whose rows and totals are those of some files is their text.
use Rattle.std.proofs.Common.{◌≡◌, ℕ, List, [], ◌∷◌, ◌++◌, length, map, refl, sym, ap, ◌∙◌}
use Rattle.std.proofs.lemmas.List.{length-map}
use Rattle.std.proofs.lemmas.List.Elements.{All-head, All-tail}
use Rattle.std.specs.List.{All, flat_map}
use Rattle.cdrc_text.specs.declared.row.Row.{Row}
use Rattle.cdrc_text.specs.declared.row.Totals.{Totals}
use Rattle.cdrc_text.specs.Fold.{AreDistinct, File, holders_in, occurrences_in}
use Rattle.cdrc_text.specs.Report.{closing_lines, report_of, row_line, word_line}
use Rattle.cdrc_text.specs.Text.{IsReport, IsRowOf, totals_in, word_of}

lines-rows : (files : List File) (rounds : ℕ) (rows : List Row) → All (IsRowOf files rounds) rows
    → flat_map row_line rows ≡ flat_map (λ w. word_line (occurrences_in w rounds files) (holders_in w files) w) (map word_of rows)
lines-rows files rounds [] all = refl
lines-rows files rounds (row ∷ rows) all =
    let here = All-head (IsRowOf files rounds) row rows all in
    let w = row.word.now in
    let line : row_line row ≡ word_line (occurrences_in w rounds files) (holders_in w files) w
    = ap (λ n. word_line n row.holders w) here.0 ∙ ap (λ n. word_line (occurrences_in w rounds files) n w) here.1 in
    let rest = lines-rows files rounds rows (All-tail (IsRowOf files rounds) row rows all) in
    cc

pub text-report : (files : List File) (rounds : ℕ) (rows : List Row) (totals : Totals) → AreDistinct files (map word_of rows)
    → All (IsRowOf files rounds) rows → totals ≡ totals_in (map word_of rows) files → IsReport files rounds (report_of rows totals)
unfolding report_of
text-report files rounds rows totals words each same =
    let distinct : length rows ≡ length (map word_of rows) = sym (length-map rows word_of) in
    record {
      words = map word_of rows;
      distinct = words;
      written = ap (λ lines. lines ++ closing_lines (length rows) totals) (lines-rows files rounds rows each)
          ∙ ap (λ n. flat_map (λ w. word_line (occurrences_in w rounds files) (holders_in w files) w) (map word_of rows) ++ closing_lines n totals) distinct
          ∙ ap (λ t. flat_map (λ w. word_line (occurrences_in w rounds files) (holders_in w files) w) (map word_of rows) ++ closing_lines (length (map word_of rows)) t) same;
    }
