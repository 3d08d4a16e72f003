use Rattle.std.proofs.Common.{refl, rules}
use Rattle.core_views.proofs.Below.core_functions_FirstBad.{told_bad}
use Rattle.cdrc_core.specs.declared.errors.StartError.TheVariants.{BadShape}
use Rattle.cdrc_core.proofs.Starting.{started_kept}
use Rattle.cdrc_core.proofs.machine.Core.start_granted.Goals as goal

pub returns-in-Some-clause-bad : goal.returns-in-Some-clause-bad
returns-in-Some-clause-bad c =
    told_bad _ (record { quotas = c.args.quotas.now; grants = c.args.grants.now }) _ c.in-Some.ensures.bad BadShape (λ f h e. cc (e)) _ refl

pub invariant_of-result : goal.invariant_of-result
invariant_of-result c =
    started_kept _ c.args.shape
    (record { quotas = c.args.quotas.now; grants = c.args.grants.now })
    c.in_ok-table.ensures (c.in_default.ensures.good (search rules))
