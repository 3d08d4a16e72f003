use Rattle.plain_audit.proofs.Fieldless.{none_unreached}
use Rattle.plain_audit.proofs.laws.only_fields_make_cycles.Goals as goal

pub returns : goal.returns
returns c = none_unreached
