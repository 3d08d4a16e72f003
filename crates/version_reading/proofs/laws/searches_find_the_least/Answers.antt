use Rattle.version_reading.proofs.Searches.{next_found, not_longer}
use Rattle.version_reading.proofs.laws.searches_find_the_least.Goals as goal

pub returns-clause-found : goal.returns-clause-found
returns-clause-found c = next_found

pub returns-clause-longer : goal.returns-clause-longer
returns-clause-longer c = not_longer
