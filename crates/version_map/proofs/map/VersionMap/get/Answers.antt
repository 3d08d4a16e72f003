use Rattle.version_reading.specs.Reading.{pair_by}
use Rattle.version_map.proofs.Values.{value_of}
use Rattle.version_map.proofs.map.VersionMap.get.Goals as goal

pub returns-clause-answer : goal.returns-clause-answer
returns-clause-answer g c =
    value_of c.args.domain.now c.args.self.now.cell c.args.key (pair_by c.next-least.result)
    c.value_at.result c.args.seat.now c.next-least.new.seat c.value_at.ensures
    c.next-least.ensures.answer
