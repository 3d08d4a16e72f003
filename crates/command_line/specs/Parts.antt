-- The words after a command, read from left to right: options with their values, and operands.
use Rattle.std.specs.Prelude.{ℕ, ◌≡◌, ◌≢◌, ◌<◌, ◌⊎◌, if◌then◌else◌, List, [], ◌∷◌, ◌++◌, length, slice_index, unwrap_or, codes}
use Rattle.std.specs.declared.option.Option.{Option}
use Rattle.std.specs.Prelude.{Some, None}
use Rattle.std.specs.List.{flat_map}
use Rattle.std.specs.Str.{bytes_eq}

abbrev pub Text : Type 0
Text = List ℕ

-- a part of the words: the option `--x` with the next word as its value, `--x=v`, or an operand
pub data Part : Type 0 where
  apart : Text → Text → Part
  joined : Text → Text → Part
  operand : Text → Part

-- a word that is no option: shorter than two bytes, or not begun by `-`
abbrev pub IsOperand : Text → Type 0
IsOperand word = (length word < 2) ⊎ (slice_index word 0 ≢ 45)

abbrev pub IsOneOf : Text → List Text → Type 0
IsOneOf option [] = ⊥
IsOneOf option (name ∷ names) = (option ≡ name) ⊎ IsOneOf option names

-- the part has one of these options, or is an operand
abbrev pub IsPart : List Text → Part → Type 0
IsPart options (apart option value) = IsOneOf option options
IsPart options (joined option value) = IsOneOf option options
IsPart options (operand word) = IsOperand word

-- the words of a part, and then these
abbrev pub spelled : Part → List Text → List Text
spelled (apart option value) rest = (codes "--" ++ option) ∷ value ∷ rest
spelled (joined option value) rest = (codes "--" ++ (option ++ (codes "=" ++ value))) ∷ rest
spelled (operand word) rest = word ∷ rest

-- behind the parts stands nothing, or a word `--` and the later operands
abbrev pub ending : Option (List Text) → List Text
ending None = []
ending (Some later) = codes "--" ∷ later

-- the words are these parts, and what stands behind them
abbrev pub IsLine : List Text → List Text → List Part → Option (List Text) → Type 0
IsLine options words [] later = words ≡ ending later
IsLine options words (part ∷ parts) later =
    (rest : List Text) × IsPart options part × (words ≡ spelled part rest)
    × IsLine options rest parts later

-- the value that a part gives to an option, if it does
abbrev pub value_in : Text → Part → List Text
value_in option (apart other value) = if bytes_eq other option then value ∷ [] else []
value_in option (joined other value) = if bytes_eq other option then value ∷ [] else []
value_in option (operand word) = []

-- all values of an option, in order
abbrev pub values_of : Text → List Part → List Text
values_of option parts = flat_map (value_in option) parts

abbrev pub operand_in : Part → List Text
operand_in (apart option value) = []
operand_in (joined option value) = []
operand_in (operand word) = word ∷ []

-- all operands, before a word `--` and after it
abbrev pub operands_of : List Part → Option (List Text) → List Text
operands_of parts later = flat_map operand_in parts ++ unwrap_or later []
