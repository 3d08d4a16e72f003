-- When the numbers of a text are refused.
use Rattle.std.specs.Prelude.{ℕ, ◌<◌, List, length, ⊤}
use Rattle.number_text.specs.declared.error.NumbersError.{NumbersError}
use Rattle.number_text.specs.declared.error.NumbersError.TheVariants.{TooMany, OutOfMemory}
use Rattle.number_text.specs.Numbers.{numbers_of}

-- there are more numbers than the limit (an allocation failure says nothing)
abbrev pub IsCauseOf : List ℕ → ℕ → NumbersError → Type 0
IsCauseOf bytes limit TooMany = limit < length (numbers_of bytes)
IsCauseOf bytes limit OutOfMemory = ⊤
