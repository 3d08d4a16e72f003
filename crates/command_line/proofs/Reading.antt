-- The words as clap reads them: a value in the next word has to be one that could be an operand.
use Rattle.std.proofs.Common.{◌≡◌, Bool, ◌∙◌, cond, sym, ap, List, [], ◌∷◌, ◌++◌, codes, Option, Some, None, append_assoc}
use Rattle.std.specs.Prelude.{unwrap_or}
use Rattle.std.specs.List.{flat_map}
use Rattle.std.specs.Str.{bytes_eq}
use Rattle.clap.specs.Lexer.{long_of, short_of}
use Rattle.clap.specs.Kinds.{Kinds}
use Rattle.clap.specs.Walk.{Row}
use Rattle.command_line.specs.Parts.{Part, Text, apart, joined, operand}
use Rattle.command_line.specs.Found.{operands_name, values_in}
use Rattle.command_line.proofs.Rules.{is_one_of}
use Rattle.command_line.proofs.Rows.{of_name}

-- the parts, and the later operands
pub record Read : Type 0 where
  pub parts : List Part
  pub later : Option (List Text)

abbrev pub before : Part → Option Read → Option Read
before part None = None
before part (Some read) = Some (record { parts = part ∷ read.parts; later = read.later })

abbrev pub read_option : List Text → Text → Option Text → Option Read → (Text → Option Read) → Option Read
read_option options name (Some value) rest valued = cond (is_one_of name options) (before (joined name value) rest) None
read_option options name None rest valued = cond (is_one_of name options) (valued name) None

abbrev pub read_word : List Text → Text → Option (Text × Option Text) → Option Text → Option Read → (Text → Option Read) → Option Read
read_word options word (Some p) short rest valued = read_option options p.0 p.1 rest valued
read_word options word None (Some flags) rest valued = None
read_word options word None None rest valued = before (operand word) rest

abbrev pub read_value : Text → Text → Option (Text × Option Text) → Option Text → Option Read → Option Read
read_value name word (Some p) short rest = None
read_value name word None (Some flags) rest = None
read_value name word None None rest = before (apart name word) rest

-- the words, where an option before them waits for its value or none does
abbrev pub read : List Text → Option Text → List Text → Option Read
read options None [] = Some (record { parts = []; later = None })
read options (Some name) [] = None
read options None (word ∷ rest) =
    cond (bytes_eq word (codes "--")) (Some (record { parts = []; later = Some rest }))
    (read_word options word (long_of word) (short_of word) (read options None rest) (λ name. read options (Some name) rest))
read options (Some name) (word ∷ rest) =
    cond (bytes_eq word (codes "--")) None
    (read_value name word (long_of word) (short_of word) (read options None rest))

-- a word by what it is: whether it is `--`, what stands behind `--`, and what stands behind one `-`
abbrev pub read_by : List Text → Text → List Text → Bool → Option (Text × Option Text) → Option Text → Option Read
read_by options word rest dashes long short =
    cond dashes (Some (record { parts = []; later = Some rest }))
    (read_word options word long short (read options None rest) (λ name. read options (Some name) rest))

-- ---- the values that are read under a name

abbrev pub part_value : Text → Part → List Text
part_value id (apart name value) = of_name name id value
part_value id (joined name value) = of_name name id value
part_value id (operand word) = of_name operands_name id word

abbrev pub later_value : Text → Option (List Text) → List Text
later_value id later = cond (bytes_eq operands_name id) (unwrap_or later []) []

abbrev pub all_values : Text → Read → List Text
all_values id read = flat_map (part_value id) read.parts ++ later_value id read.later

-- no fault comes exactly where the words are read, and then the rows have what was there before and what is read
abbrev pub Agree : Kinds → List Row → (Text → List Text) → Option Read → Type 0
Agree faults rows so_far None = faults ≡ [] → ⊥
Agree faults rows so_far (Some read) =
    (faults ≡ []) × ((id : Text) → values_in id rows ≡ so_far id ++ all_values id read)

joins : (xs ys zs us : List Text) → (xs ++ ys) ++ (zs ++ us) ≡ xs ++ ((ys ++ zs) ++ us)
joins xs ys zs us = append_assoc xs ys (zs ++ us) ∙ ap (λ (t : List Text). xs ++ t) (sym (append_assoc ys zs us))

-- one more part
pub agree-before : (faults : Kinds) (rows : List Row) (so_far next : Text → List Text) (part : Part) (q : Option Read)
    → ((id : Text) → next id ≡ so_far id ++ part_value id part) → Agree faults rows next q → Agree faults rows so_far (before part q)
agree-before faults rows so_far next part None step h = h
agree-before faults rows so_far next part (Some read) step h = (
  h.0,
  λ id. h.1 id ∙ ap (λ (t : List Text). t ++ all_values id read) (step id)
      ∙ joins (so_far id) (part_value id part) (flat_map (part_value id) read.parts) (later_value id read.later),
)

-- the same, of equal faults and rows
pub agree-same : (a b : Kinds) (xs ys : List Row) (so_far : Text → List Text) (q : Option Read) → a ≡ b → xs ≡ ys
    → Agree b ys so_far q → Agree a xs so_far q
agree-same a b xs ys so_far None faults rows h = λ none. h (sym faults ∙ none)
agree-same a b xs ys so_far (Some read) faults rows h =
    (faults ∙ h.0, λ id. ap (λ (t : List Row). values_in id t) rows ∙ h.1 id)
