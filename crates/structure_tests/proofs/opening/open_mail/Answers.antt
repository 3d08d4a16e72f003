use Rattle.std.proofs.Common.{subst, sym}
use Rattle.structure_tests.specs.Ready.{IsNew}
use Rattle.structure_tests.proofs.opening.open_mail.Goals as goal

pub returns-clause-root : goal.returns-clause-root
returns-clause-root c =
    subst (IsNew c.in_ok-domain.domain) (sym c.remove-root.ensures.value)
    (c.in_ok-domain.ensures.new 0 c.remove-root.result c.in_ok-domain.ensures.some)
