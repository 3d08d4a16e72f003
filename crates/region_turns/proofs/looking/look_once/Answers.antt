use Rattle.region_turns.proofs.RegionCalls.{looked_holds}
use Rattle.region_turns.proofs.Visiting.{has_seen}
use Rattle.region_turns.proofs.looking.look_once.Goals as goal

pub e_read-requires-clause-held : goal.e_read-requires-clause-held
e_read-requires-clause-held c =
    looked_holds c.e_look.ensures.looked c.in-Some.found c.in-Some.is

pub returns-clause-seen : goal.returns-clause-seen
returns-clause-seen c all =
    has_seen c.in-Some.found c.e_look.ensures.looked c.in-Some.is c.e_read.ensures.read
