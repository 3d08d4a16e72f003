use Rattle.std.proofs.Common.{[]}
use Rattle.script_lines.specs.Spelling.{Number}
use Rattle.script_lines.proofs.Forms.{each-three}
use Rattle.script_lines.proofs.Refusals.{same-refusal}
use Rattle.script_lines.proofs.arguments.three_numbers.Goals as goal

-- the first, the second or the third word is no number
pub returns-in_err-first-clause-syntax : goal.returns-in_err-first-clause-syntax
returns-in_err-first-clause-syntax c told i j k spells =
    let all = each-three (record { ref_ptr = (0, 0); now = [] }) (Number i) (Number j) (Number k) c.args.words.now spells in
    c.in_err-first.ensures.syntax (same-refusal _ _ c.from_residual.ensures.1 told) i all.0

pub returns-in_err-second-clause-syntax : goal.returns-in_err-second-clause-syntax
returns-in_err-second-clause-syntax c told i j k spells =
    let all = each-three (record { ref_ptr = (0, 0); now = [] }) (Number i) (Number j) (Number k) c.args.words.now spells in
    c.in_err-second.ensures.syntax (same-refusal _ _ c.from_residual-in_err-second.ensures.1 told) j all.1

pub returns-in_err-parse_number-clause-syntax : goal.returns-in_err-parse_number-clause-syntax
returns-in_err-parse_number-clause-syntax c told i j k spells =
    let all = each-three (record { ref_ptr = (0, 0); now = [] }) (Number i) (Number j) (Number k) c.args.words.now spells in
    c.in_err-parse_number.ensures.syntax (same-refusal _ _ c.from_residual-in_err-parse_number.ensures.1 told) k all.2
