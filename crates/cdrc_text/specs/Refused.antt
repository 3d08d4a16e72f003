-- When the pieces of a text are refused.
use Rattle.std.specs.Prelude.{◌≡◌, ℕ, ◌<◌, List, length, slice_index_or, ⊤}
use Rattle.cdrc_text.specs.Pieces.{pieces_of, place_over}
use Rattle.cdrc_text.specs.declared.error.PiecesError.{PiecesError}
use Rattle.cdrc_text.specs.declared.error.PiecesError.TheVariants.{TooMany, OutOfMemory}

-- there are more pieces than the limit, and the answer is the place of the first one over it
-- (an allocation failure says nothing)
abbrev pub IsCauseOf : List ℕ → ℕ → PiecesError → Type 0
IsCauseOf bytes limit (TooMany place) =
    (limit < length (pieces_of bytes)) × (place ≡ place_over bytes limit)
IsCauseOf bytes limit OutOfMemory = ⊤

-- the same of places alone
abbrev pub IsOver : List (ℕ × ℕ) → ℕ → PiecesError → Type 0
IsOver places limit (TooMany place) =
    (limit < length places) × (place ≡ (slice_index_or places limit (0, 0)).0)
IsOver places limit OutOfMemory = ⊤
