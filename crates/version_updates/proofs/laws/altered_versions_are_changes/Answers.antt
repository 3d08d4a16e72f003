use Rattle.version_updates.proofs.Altering.{change_is, root_height, version_made}
use Rattle.version_updates.proofs.laws.altered_versions_are_changes.Goals as goal

pub returns-clause-height : goal.returns-clause-height
returns-clause-height c = root_height

pub returns-clause-change : goal.returns-clause-change
returns-clause-change c = change_is

pub returns-clause-version : goal.returns-clause-version
returns-clause-version c = version_made
