use Rattle.std.proofs.Common.{◌-◌}
use Rattle.heap_audit.specs.Heaps.{slot}
use Rattle.heap_audit.proofs.search.offer.Goals as goal

pub lower-requires-clause-best : goal.lower-requires-clause-best
lower-requires-clause-best c = c.requires.within (slot (c.args.word - 1))
