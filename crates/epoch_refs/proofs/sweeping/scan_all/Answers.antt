use Rattle.std.proofs.Common.{◌<◌, rules}
use Rattle.epoch_refs.proofs.RegionWords.{in_scan, none_so_far, one_more}
use Rattle.epoch_refs.proofs.sweeping.scan_all.Goals as goal

pub loop-seat-init : goal.loop-seat-init
loop-seat-init g c =
    none_so_far _ c.args.domain.now c.args.seat.now c.requires.seat c.requires.shape.0
    c.requires.began.0 c.requires.began.1

pub scan-requires-clause-may : goal.scan-requires-clause-may
scan-requires-clause-may g c =
    let more : c.loop-seat._seat < c.args.domain.now.shape.seats = search rules in
    (_, in_scan _ c.args.domain.now _ c.args.seat.now c.loop-seat.seat c.loop-seat.invariant more, more)

pub loop-seat-preserved : goal.loop-seat-preserved
loop-seat-preserved g c =
    let more : c.loop-seat._seat < c.args.domain.now.shape.seats = search rules in
    one_more _ c.args.domain.now _ c.args.seat.now c.loop-seat.seat c.loop-seat.invariant more
    c.scan.new.seat _ c.scan.ensures
