-- The numbers of a text: those of its fields that are decimal numbers below 2^64.
use Rattle.std.specs.Prelude.{ℕ, ◌^◌, ◌&&◌, Bool, List, length, filter_map, count_by, nat_lt, if◌then◌else◌, Option, Some, None, is_none}
use Rattle.std.specs.Str.{all_ascii_digits}
use Rattle.std.specs.Str.Parse.{digits_value, without_leading_plus}
use Rattle.cdrc_text.specs.Pieces.{fields_of}

-- one or more decimal digits, whose value is below 2^64
abbrev pub spell_number : List ℕ → Bool
spell_number digits =
    nat_lt 0 (length digits) && all_ascii_digits digits
    && nat_lt (digits_value 10 digits) (2 ^ 64)

-- the value of such digits, if they are some
abbrev pub number_spelled : List ℕ → Option ℕ
number_spelled digits = if spell_number digits then Some (digits_value 10 digits) else None

-- the number that a field is, after a `+` or none
unfoldable pub number_of : List ℕ → Option ℕ
number_of field = number_spelled (without_leading_plus field)

-- the numbers of a text, in order: of all its fields those that are numbers, each whole
abbrev pub numbers_of : List ℕ → List ℕ
numbers_of bytes = filter_map number_of (fields_of bytes)

-- how many fields of a text are no numbers
abbrev pub skipped_of : List ℕ → ℕ
skipped_of bytes = count_by (λ field. is_none (number_of field)) (fields_of bytes)
