use Rattle.std.proofs.Common.{[], refl, arith}
use Rattle.command_line.proofs.Meanings.{three_draws}
use Rattle.command_line.proofs.asking.draws_within.Goals as goal

pub returns-in_err-number_within-in-len3-clause-none : goal.returns-in_err-number_within-in-len3-clause-none
returns-in_err-number_within-in-len3-clause-none c none draws is =
    let parts = three_draws c.args.most draws c.args.operands.now (record { ref_ptr = (0, 0); now = [] }) (omega arith) (omega arith) is in
    c.in_err-number_within-in-len3.ensures.none refl draws.seed parts.0

pub returns-in_err-number_within-in-len3-2-clause-none : goal.returns-in_err-number_within-in-len3-2-clause-none
returns-in_err-number_within-in-len3-2-clause-none c none draws is =
    let parts = three_draws c.args.most draws c.args.operands.now (record { ref_ptr = (0, 0); now = [] }) (omega arith) (omega arith) is in
    c.in_err-number_within-in-len3-2.ensures.none refl draws.words parts.1

pub returns-in_err-number_within-in-len3-3-clause-none : goal.returns-in_err-number_within-in-len3-3-clause-none
returns-in_err-number_within-in-len3-3-clause-none c none draws is =
    let parts = three_draws c.args.most draws c.args.operands.now (record { ref_ptr = (0, 0); now = [] }) (omega arith) (omega arith) is in
    c.in_err-number_within-in-len3-3.ensures.none refl draws.vocabulary parts.2
