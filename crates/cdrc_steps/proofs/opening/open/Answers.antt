use Rattle.std.proofs.Common.{◌≡◌, [], rules, Err}
use Rattle.cdrc_core.proofs.Below.core_functions_FirstBad.{none_bad}
use Rattle.cdrc_core.specs.declared.errors.StartError.TheVariants.{BadShape}
use Rattle.cdrc_steps.specs.Meaning.{quotas_of}
use Rattle.cdrc_steps.proofs.Quotas.{quotas_fit}
use Rattle.cdrc_steps.proofs.opening.open.Goals as goal

-- a field that is out of its range is one of the shape's
pub returns-in-Err-BadShape-clause-refused : goal.returns-in-Err-BadShape-clause-refused
returns-in-Err-BadShape-clause-refused c told is_shape =
    let field = c.in-Err-BadShape.field-0-0 in
    let is : c.deref.result.now ≡ quotas_of c.args.shape = search rules in
    let refused : c.start.result ≡ Err (BadShape field) = cc in
    none_bad c.args.shape (record { quotas = c.deref.result.now; grants = [] }) field is_shape (quotas_fit c.args.shape c.deref.result.now is) ((c.start.ensures.bad field).0 refused)
