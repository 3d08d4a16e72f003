use Rattle.std.specs.Prelude.{◌≡◌, length}
use Rattle.version_map.proofs.Again.{HasTried}
use Rattle.version_map.proofs.map.VersionMap.range.Given as goal

abbrev pub invariant-loop-try : goal.invariant-loop-try
invariant-loop-try g l = HasTried l.domain l.fn.seat l.seat × (length l.out ≡ length l.fn.out)
