use Rattle.std.proofs.Common.{ℕ, List, [], refl, subst, arith}
use Rattle.command_line.specs.Values.{IsSlots}
use Rattle.command_line.proofs.Given.{one_text}
use Rattle.command_line.proofs.options.slots_of.Goals as goal

pub returns-in_err-number_within-in-len1-clause-none : goal.returns-in_err-number_within-in-len1-clause-none
returns-in_err-number_within-in-len1-clause-none c none n is =
    let meant = subst (λ (ts : List (List ℕ)). IsSlots ts n) (one_text c.args.values.now (record { ref_ptr = (0, 0); now = [] }) (omega arith) (omega arith)) is in
    c.in_err-number_within-in-len1.ensures.none refl meant.0 meant.2
