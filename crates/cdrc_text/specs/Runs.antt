-- The fields of a text as what they are: its maximal runs without white space.
use Rattle.std.specs.Prelude.{ℕ, ◌≡◌, ◌-◌, ◌<◌, true, false, List, [], ◌∷◌, ◌++◌, length, slice_index_or, None}
use Rattle.std.specs.Char.{is_whitespace}
use Rattle.std.specs.List.{All}
use Rattle.cdrc_text.specs.Pieces.{field_ends, spans_of}

-- a character with its first byte and its end
abbrev pub Span : Type 0
Span = ℕ × ℕ × ℕ

abbrev pub IsSpace : Span → Type 0
IsSpace c = is_whitespace c.2 ≡ true

abbrev pub IsNoSpace : Span → Type 0
IsNoSpace c = is_whitespace c.2 ≡ false

-- the first byte and the end of each field of a text
abbrev pub field_places : List ℕ → List (ℕ × ℕ)
field_places bytes = field_ends None (spans_of bytes)

-- some characters, none of them white space, from the field's first byte up to its end
pub record IsRun (field : ℕ × ℕ) (run : List Span) : Type 0 where
  pub filled : 0 < length run
  pub no_space : All IsNoSpace run
  pub first : field.0 ≡ (slice_index_or run 0 (0, 0, 0)).0
  pub end : field.1 ≡ (slice_index_or run (length run - 1) (0, 0, 0)).1

-- white space comes next, or the end
abbrev pub SpaceNext : List Span → Type 0
SpaceNext [] = Unit {0}
SpaceNext (c ∷ rest) = IsSpace c

-- the characters are white space, the first field, white space, the next field, and so on to the end. Only in front of
-- the first field and behind the last one may there be no white space; so each field is maximal, and all that is no
-- white space lies in a field
abbrev pub AreMaximalRuns : List (ℕ × ℕ) → List Span → Type 0
AreMaximalRuns [] characters = All IsSpace characters
AreMaximalRuns (field ∷ fields) characters =
    (space : List Span) × (run : List Span) × (rest : List Span)
    × (characters ≡ space ++ run ++ rest) × All IsSpace space × IsRun field run
    × SpaceNext rest × AreMaximalRuns fields rest
