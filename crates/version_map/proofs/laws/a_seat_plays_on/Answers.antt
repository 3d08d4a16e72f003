use Rattle.version_map.proofs.Playing.{begins, can_read, has_read, has_updated}
use Rattle.version_map.proofs.laws.a_seat_plays_on.Goals as goal

pub returns-clause-begins : goal.returns-clause-begins
returns-clause-begins c = begins

pub returns-clause-reads : goal.returns-clause-reads
returns-clause-reads c = can_read

pub returns-clause-read : goal.returns-clause-read
returns-clause-read c = has_read

pub returns-clause-updated : goal.returns-clause-updated
returns-clause-updated c = has_updated
