use Rattle.std.proofs.Common.{◌+◌, ◌*◌, length}
use Rattle.record_texts.specs.Texts.{parts_after, text_of}
use Rattle.cell_finding.proofs.Walking.{OnTheWay}
use Rattle.cell_finding.proofs.finding.seek.Given as goal

abbrev pub invariant-loop-passed : goal.invariant-loop-passed
invariant-loop-passed l =
    OnTheWay l.domain (text_of l.sought.text.now) (18 + 17 * parts_after (length l.sought.text.now))
    l.from l.passed l.fn.seat l.seat
