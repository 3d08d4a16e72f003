-- A text of counts ends in its three closing lines, behind whole lines.
use Rattle.std.proofs.Common.{◌≡◌, ℕ, inl, inr, List, [], ◌∷◌, ◌++◌, length, codes, refl, sym, ap, ◌∙◌, append_assoc, append-nil}
use Rattle.std.specs.Fmt.{decimal}
use Rattle.std.specs.List.{flat_map}
use Rattle.command_line.specs.cdrc_text.declared.row.Totals.{Totals}
use Rattle.command_line.specs.cdrc_text.Fold.{File, holders_in, occurrences_in}
use Rattle.command_line.specs.cdrc_text.Report.{closing_lines, word_line}
use Rattle.command_line.specs.cdrc_text.Text.{IsReport, totals_in}
use Rattle.cdrc_run.specs.Closings.{EndsInLines, IsWholeLines}
use Rattle.cdrc_run.specs.Outputs.{IsClosing}

-- lines behind a line that ends with a line feed
line_before : (line rest : List ℕ) → IsWholeLines rest → IsWholeLines (line ++ codes "\n" ++ rest)
line_before line rest (inl none) =
    inr (line, ap (λ (xs : List ℕ). line ++ codes "\n" ++ xs) none ∙ append-nil (line ++ codes "\n"))
line_before line rest (inr last) =
    inr (
      line ++ codes "\n" ++ last.0,
      ap (λ (xs : List ℕ). line ++ codes "\n" ++ xs) last.1
          ∙ sym (append_assoc (line ++ codes "\n") last.0 (10 ∷ [])),
    )

word_lines : (occurrences holders : List ℕ → ℕ) (words : List (List ℕ))
    → IsWholeLines (flat_map (λ w. word_line (occurrences w) (holders w) w) words)
word_lines occurrences holders [] = inl refl
word_lines occurrences holders (w ∷ ws) =
    line_before (decimal (occurrences w) ++ codes " " ++ decimal (holders w) ++ codes " " ++ w)
    (flat_map (λ w. word_line (occurrences w) (holders w) w) ws) (word_lines occurrences holders ws)

module _ (files : List File) (rounds : ℕ) (text : List ℕ) (is : IsReport files rounds text) where
  abbrev front : List ℕ
  front = flat_map (λ w. word_line (occurrences_in w rounds files) (holders_in w files) w) is.words

  pub whole : IsWholeLines front
  whole = word_lines (λ w. occurrences_in w rounds files) (λ w. holders_in w files) is.words

  pub ends_in_lines : EndsInLines text
  ends_in_lines = record {
    front = front;
    whole = whole;
    distinct = length is.words;
    totals = totals_in is.words files;
    is = is.written;
  }

  -- what is found behind whole lines is the closing
  pub closing_is : (lines : List ℕ)
      → ((front : List ℕ) (distinct : ℕ) (totals : Totals) → IsWholeLines front
      → text ≡ front ++ closing_lines distinct totals → lines ≡ closing_lines distinct totals)
      → IsClosing files lines
  closing_is lines found = (
    is.words,
    is.distinct,
    found front (length is.words) (totals_in is.words files) whole is.written,
  )
