-- The number that a word spells.
use Rattle.std.specs.Prelude.{◌≡◌, ℕ, ◌+◌, ◌-◌, ◌*◌, ◌^◌, ◌<◌, ◌⊎◌, min, List, ◌∷◌, length, fold}
use Rattle.std.specs.Char.{IsAsciiDigit}
use Rattle.std.specs.List.{All}

-- one or more decimal digits
abbrev pub IsDigits : List ℕ → Type 0
IsDigits digits = (0 < length digits) × All IsAsciiDigit digits

-- the value of decimal digits, which has no bound
unfoldable pub value_of : List ℕ → ℕ
value_of digits = fold (λ value digit. value * 10 + (digit - 48)) 0 digits

-- the word spells n: n is the value of its digits, after a `+` or none
pub record IsNumber (word : List ℕ) (n : ℕ) : Type 0 where
  pub digits : List ℕ
  pub sign : (word ≡ digits) ⊎ (word ≡ 43 ∷ digits)
  pub decimal : IsDigits digits
  pub value : n ≡ value_of digits

-- n, or the greatest number of 128 bits where n is above it
abbrev pub capped : ℕ → ℕ
capped n = min n (2 ^ 128 - 1)

-- the word spells a number that is m when capped
abbrev pub IsCappedNumber : List ℕ → ℕ → Type 0
IsCappedNumber word m = (n : ℕ) × IsNumber word n × (m ≡ capped n)
