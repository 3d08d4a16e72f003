use Rattle.std.proofs.Common.{◌≡◌, ℕ, ◌<◌, true, List, inl, inr, length, get_or, arith}
use Rattle.std.proofs.lemmas.Bool.{cases_lt}
use Rattle.std.proofs.lemmas.Bool.Decides.{nat_tests}
use Rattle.std.proofs.lemmas.List.{get_or_past}
use Rattle.std.proofs.lemmas.Str.{IsUtf8-from_ascii}
use Rattle.std.specs.Str.{IsAscii}
use Rattle.script_lines.specs.Names.{is_name_byte, IsName}
use Rattle.script_lines.proofs.name.Name.parse.Goals as goal

ascii_byte : (b : ℕ) → is_name_byte b ≡ true → b < 128
ascii_byte b is = grind (arith, nat_tests)

ascii-name : (word : List ℕ) → IsName word → IsAscii word
ascii-name word is i = elim (cases_lt i (length word)) [
  | inl h ↦ ascii_byte (get_or word i 0) (is.bytes i 0 h)
  | inr h ↦ omega (arith, get_or_past word i 0 h)
]

-- the bytes of a name are ASCII, and so UTF-8
pub returns-in_default-clause-refused : goal.returns-in_default-clause-refused
returns-in_default-clause-refused c told is_name =
    c.in_default.ensures.cases.0 (IsUtf8-from_ascii c.args.word.now (ascii-name c.args.word.now is_name))
