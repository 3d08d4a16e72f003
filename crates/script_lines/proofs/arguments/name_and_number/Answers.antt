use Rattle.std.proofs.Common.{[]}
use Rattle.script_lines.specs.Spelling.{Named, Number}
use Rattle.script_lines.proofs.Forms.{each-two}
use Rattle.script_lines.proofs.Refusals.{same-refusal}
use Rattle.script_lines.proofs.arguments.name_and_number.Goals as goal

-- the second word is no number
pub returns-in_err-parse_number-clause-syntax : goal.returns-in_err-parse_number-clause-syntax
returns-in_err-parse_number-clause-syntax c told n i spells =
    let both = each-two (record { ref_ptr = (0, 0); now = [] }) (Named n) (Number i) c.args.words.now spells in
    c.in_err-parse_number.ensures.syntax (same-refusal _ _ c.from_residual-in_err-parse_number.ensures.1 told) i both.1
