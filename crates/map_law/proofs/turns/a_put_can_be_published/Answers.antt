use Rattle.map_law.proofs.turns.a_put_can_be_published.Goals as goal
use Rattle.map_law.proofs.Example.{set_is_ready, publish_is_ready}

pub returns-clause-set : goal.returns-clause-set
returns-clause-set c = set_is_ready

pub returns-clause-publish : goal.returns-clause-publish
returns-clause-publish c = publish_is_ready
