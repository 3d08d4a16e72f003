-- What a name is.
use Rattle.std.specs.Prelude.{◌≢◌, ℕ, ◌<◌, ◌≤◌, ◌==◌, ◌||◌, Bool, List, length, codes}
use Rattle.std.specs.Char.{is_ascii_alphanumeric}
use Rattle.std.specs.List.{AllPass}

-- an ASCII letter, a digit or `_`
abbrev pub is_name_byte : ℕ → Bool
is_name_byte byte = is_ascii_alphanumeric byte || byte == 95

-- the word is a name: 1 to 32 of these bytes, but not `null`
pub record IsName (word : List ℕ) : Type 0 where
  pub some : 0 < length word
  pub short : length word ≤ 32
  pub bytes : AllPass is_name_byte word
  pub no_null : word ≢ codes "null"
