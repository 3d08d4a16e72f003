-- The command that clap is given, and the matches that it has of the words.
use Rattle.std.specs.Prelude.{◌≡◌, ◌&&◌, ⊤, Bool, true, not, List, [], ◌∷◌, ◌++◌, Some, map, unwrap_or, codes}
use Rattle.std.specs.List.{list_all}
use Rattle.std.specs.Str.{bytes_eq}
use Rattle.std.specs.declared.option.Option.{Option}
use Rattle.clap.specs.Lexer.{has_byte}
use Rattle.clap.specs.Matches.{found_of}
use Rattle.clap.specs.Simple.{App, Shape, new_rule, new_shape}
use Rattle.clap.specs.Walk.{Row, Rule, all_of, is_empty, rows_of}
use Rattle.clap.specs.declared.builder.action.ArgAction.TheVariants.{Append}
use Rattle.clap.specs.declared.parser.matches.ArgMatches.{ArgMatches}
use Rattle.command_line.specs.Parts.{Part, Text, IsLine, IsOneOf, IsOperand, apart, joined, operand, operands_of, values_of}

-- the name by which the operands are found
abbrev pub operands_name : Text
operands_name = codes "operand"

-- a name that an option may have
abbrev pub is_name : Text → Bool
is_name name = not (is_empty name) && (not (has_byte 61 name) && not (bytes_eq name operands_name))

abbrev pub are_names : List Text → Bool
are_names options = list_all is_name options

-- each use of an option has one value, and each operand is one
abbrev pub option_rule : Text → Rule
option_rule name = record (new_rule name) { long = Some name; action = Some Append }

abbrev pub operands_rule : Rule
operands_rule = record (new_rule operands_name) { action = Some Append }

abbrev pub shape_with : List Rule → Shape
shape_with rules =
    record (new_shape (codes "cdrc_words")) { disable_help_flag = true; rules = rules }

abbrev pub app_raw : List Rule → App
app_raw rules = record { top = shape_with rules; subs = [] }

-- the command with these options and with operands
abbrev pub app_with : List Text → App
app_with options = app_raw (map option_rule options ++ operands_rule ∷ [])

abbrev pub values_in : Text → List Row → List Text
values_in name rows = unwrap_or (all_of name rows) []

-- the values that were found under a name
abbrev pub found_under : Text → ArgMatches → List Text
found_under name matches = values_in name (rows_of (found_of matches))

-- each value of an option could be an operand, as every value could that means something: clap takes no other value out
-- of the next word
abbrev pub IsPlainPart : Part → Type 0
IsPlainPart (apart option value) = IsOperand value
IsPlainPart (joined option value) = IsOperand value
IsPlainPart (operand word) = ⊤

abbrev pub ArePlain : List Part → Type 0
ArePlain [] = ⊤
ArePlain (part ∷ parts) = IsPlainPart part × ArePlain parts

-- the matches have all operands, and all values of each option
pub record Shows (options words : List Text) (matches : ArgMatches) : Type 0 where
  pub parts : List Part
  pub later : Option (List Text)
  pub line : IsLine options words parts later
  pub operands : found_under operands_name matches ≡ operands_of parts later
  pub values : (option : Text) → IsOneOf option options
      → found_under option matches ≡ values_of option parts
