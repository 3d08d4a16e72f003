use Rattle.std.proofs.Common.{◌≡◌, None, arith}
use Rattle.script_lines.proofs.place.parse_number.Goals as goal

-- a refusal comes of no number
pub returns-clause-syntax : goal.returns-clause-syntax
returns-clause-syntax c told n spells =
    let none : c.number.result ≡ None = grind arith in
    c.number.ensures.none (grind arith) spells.0 spells.1
