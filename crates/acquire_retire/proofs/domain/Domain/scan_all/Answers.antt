use Rattle.std.proofs.Common.{ap, length, arith}
use Rattle.acquire_retire.proofs.Collects.{is_of_after}
use Rattle.acquire_retire.proofs.Readings.{comes_last, splits_by}
use Rattle.acquire_retire.proofs.domain.Domain.scan_all.Goals as goal

pub read_last-requires-clause-seat : goal.read_last-requires-clause-seat
read_last-requires-clause-seat g c = is_of_after c.args.self.now _ c.args.seat.now c.read_on.new.seat
    c.requires.seat c.read_on.ensures.2.goes

pub read_last-requires-clause-last : goal.read_last-requires-clause-last
read_last-requires-clause-last g c =
    let len = c.read_on.ensures.1 in
    let read = ap length c.read_on.ensures.2.reads in
    comes_last c.args.self.now.shape c.read_on.new.seat.view.core (omega arith)

pub returns-in-Split : goal.returns-in-Split
returns-in-Split g c =
    let read = c.read_on.ensures in
    splits_by c.args.self.now read.0 c.args.seat.now c.read_on.new.seat c.read_last.new.seat
    c.read_last.result c.requires.idle read.1 read.2 c.read_last.ensures _ _ _ c.in-Split.is
