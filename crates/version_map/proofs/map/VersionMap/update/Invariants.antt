use Rattle.version_map.proofs.Retries.{MayTry}
use Rattle.version_map.proofs.map.VersionMap.update.Given as goal

abbrev pub invariant-loop-try : goal.invariant-loop-try
invariant-loop-try g l = MayTry l.domain l.self.cell l.fn.seat l.seat
