use Rattle.eject_scan.proofs.Announcements.{announced_alike, fewer, noted_more}
use Rattle.eject_scan.proofs.laws.laws_of_announcements.Goals as goal

pub returns-clause-times : goal.returns-clause-times
returns-clause-times c = announced_alike

pub returns-clause-one_more : goal.returns-clause-one_more
returns-clause-one_more c = noted_more

pub returns-clause-fewer : goal.returns-clause-fewer
returns-clause-fewer c = fewer
