-- what is left of the walk decides
use Rattle.std.proofs.Common.{◌↔◌, drop}
use Rattle.heap_audit.specs.Paths.{Path}
use Rattle.heap_audit.specs.Reached.{HasField}
use Rattle.heap_audit.specs.Walks.{IsWalk}
use Rattle.heap_audit.proofs.walks.check_walk.Given as goal

abbrev pub invariant-loop-next : goal.invariant-loop-next
invariant-loop-next l = IsWalk l.heap l.walk ↔ Path (HasField l.heap) l.present (drop l.next-index l.rest) l.start
