use Rattle.std.proofs.Common.{ℕ, List, [], subst, arith}
use Rattle.command_line.specs.Values.{IsNumberOr}
use Rattle.command_line.proofs.Given.{one_text}
use Rattle.command_line.proofs.numbers.number_or.Goals as goal

pub returns-in-len1-clause-none : goal.returns-in-len1-clause-none
returns-in-len1-clause-none c none n is =
    c.number_within.ensures.none none n
    (subst (λ (ts : List (List ℕ)). IsNumberOr c.args.default c.args.least c.args.most ts n)
    (one_text c.args.values.now (record { ref_ptr = (0, 0); now = [] }) (omega arith) (omega arith)) is)
