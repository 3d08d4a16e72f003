-- Where the last three lines of a text of counts begin.
use Rattle.std.specs.Prelude.{ℕ, ◌≡◌, ◌⊎◌, List, [], ◌∷◌, ◌++◌}
use Rattle.command_line.specs.cdrc_text.declared.row.Totals.{Totals}
use Rattle.command_line.specs.cdrc_text.Report.{closing_lines}

-- nothing, or bytes whose last one is a line feed
abbrev pub IsWholeLines : List ℕ → Type 0
IsWholeLines text = (text ≡ []) ⊎ ((front : List ℕ) × (text ≡ front ++ 10 ∷ []))

-- behind whole lines stand the three closing ones
pub record EndsInLines (text : List ℕ) : Type 0 where
  pub front : List ℕ
  pub whole : IsWholeLines front
  pub distinct : ℕ
  pub totals : Totals
  pub is : text ≡ front ++ closing_lines distinct totals
