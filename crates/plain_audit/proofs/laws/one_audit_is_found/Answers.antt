use Rattle.plain_audit.proofs.Once.{finds_same}
use Rattle.plain_audit.proofs.laws.one_audit_is_found.Goals as goal

pub returns : goal.returns
returns c = finds_same
