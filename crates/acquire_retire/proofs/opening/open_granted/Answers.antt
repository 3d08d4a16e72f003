use Rattle.std.proofs.Common.{refl}
use Rattle.dying_slots.proofs.Below.core_functions_FirstBad.{told_bad}
use Rattle.acquire_retire.specs.declared.errors.OpenError.TheVariants.{BadShape}
use Rattle.acquire_retire.proofs.opening.open_granted.Goals as goal

pub returns-in-Some-clause-bad : goal.returns-in-Some-clause-bad
returns-in-Some-clause-bad g c =
    told_bad c.args.shape (record { quotas = c.args.quotas.now; grants = c.args.grants.now }) _
    c.in-Some.ensures.bad BadShape (λ f h e. cc (e)) _ refl
