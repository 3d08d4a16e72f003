use Rattle.std.specs.Prelude.{length}
use Rattle.version_map.proofs.Scans.{Scans}
use Rattle.version_map.proofs.scanning.scan_version.Given as goal

abbrev pub invariant-loop-count : goal.invariant-loop-count
invariant-loop-count l =
    Scans l.fn.root l.fn.low l.fn.high (length l.fn.out) l.fn.seat l.count l.least l.out l.seat
