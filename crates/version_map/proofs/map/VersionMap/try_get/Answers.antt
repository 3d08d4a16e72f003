use Rattle.version_reading.specs.Reading.{pair_by}
use Rattle.version_map.proofs.Values.{value_of}
use Rattle.version_map.proofs.map.VersionMap.try_get.Goals as goal

pub returns-in-Ok-clause-answer : goal.returns-in-Ok-clause-answer
returns-in-Ok-clause-answer c =
    value_of c.args.domain.now c.args.self.now.cell c.args.key (pair_by c.in-Ok.least)
    c.value_at.result c.args.seat.now c.try_next.new.seat c.value_at.ensures c.in-Ok.ensures.answer
