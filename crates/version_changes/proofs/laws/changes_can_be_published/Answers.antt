use Rattle.version_changes.proofs.Published.{is_change}
use Rattle.version_changes.proofs.laws.changes_can_be_published.Goals as goal

pub returns : goal.returns
returns c = is_change
