use Rattle.std.proofs.Common.{arith}
use Rattle.cell_finding.proofs.Soughts.{is_sought}
use Rattle.cell_finding.proofs.sought.sought_text.Goals as goal

pub returns-clause-sought : goal.returns-clause-sought
returns-clause-sought c =
    is_sought c.args.text.now c.head_of.result c.hash_of.result
    (λ i. omega (arith, c.type_inv.text i)) c.requires.0 c.requires.1 c.head_of.ensures
    c.hash_of.ensures.hash c.hash_of.ensures.small
