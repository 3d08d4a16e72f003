-- Why contents aren't cut.
use Rattle.std.specs.Prelude.{ℕ, ◌<◌, List}
use Rattle.file_work.specs.Limits.{HasTooMany}
use Rattle.file_work.specs.declared.refused.Refused.{Refused}
use Rattle.file_work.specs.declared.refused.Refused.TheVariants as refused

module _ {S : Type 0} where
  -- a limit is passed, which is this, or there was no memory
  abbrev pub IsLimitOr : Type 0 → Refused S → Type 0
  IsLimitOr limit refused.Read = ⊥
  IsLimitOr limit refused.TooLarge = limit
  IsLimitOr limit (refused.Full seat) = ⊥
  IsLimitOr limit (refused.Spent seat) = ⊥
  IsLimitOr limit refused.OutOfMemory = Unit {0}

  -- they have more pieces than the limit
  abbrev pub IsWhyUncut : ℕ → ℕ → Refused S → Type 0
  IsWhyUncut limit pieces = IsLimitOr (limit < pieces)

  -- in so many rounds they have more than one domain serves
  abbrev pub IsWhyUncutOf : ℕ → List (List ℕ) → Refused S → Type 0
  IsWhyUncutOf rounds contents = IsLimitOr (HasTooMany rounds contents)
