use Rattle.std.proofs.Common.{◌∙◌, arith}
use Rattle.lane_files.proofs.Copied.{copy_ready}
use Rattle.lane_files.proofs.Scanned.{collect_scans, reap_scans}
use Rattle.lane_files.proofs.SeatsKept.{owns_on}
use Rattle.lane_files.proofs.Tidied.{owns_collect, owns_reap, ready_collect}
use Rattle.lane_files.proofs.tidying.destroy_next.Goals as goal

pub returns-then-is_none-clause-owns : goal.returns-then-is_none-clause-owns
returns-then-is_none-clause-owns g c =
    owns_reap _ c.args.domain.now c.args.seat.now c.reap.new.seat _ c.reap.result
    c.reap.ensures.reaps c.reap.ensures.objects

pub returns-then-is_none-clause-scans : goal.returns-then-is_none-clause-scans
returns-then-is_none-clause-scans g c =
    reap_scans _ c.args.domain.now _ c.reap.result c.args.seat.now c.reap.new.seat
    c.reap.ensures.reaps

pub returns-then-shape-gt-SEATS_OF_ONE_LANE-clause-owns :
    goal.returns-then-shape-gt-SEATS_OF_ONE_LANE-clause-owns
returns-then-shape-gt-SEATS_OF_ONE_LANE-clause-owns g c =
    owns_on c.args.seat.now.view.core.owned c.args.seat.now c.reap.new.seat c.collect.new.seat
    (owns_reap _ c.args.domain.now c.args.seat.now c.reap.new.seat _ c.reap.result
    c.reap.ensures.reaps c.reap.ensures.objects)
    (λ x. omega arith)
    (owns_collect _ c.args.domain.now c.reap.new.seat c.collect.new.seat c.collect.ensures)

pub returns-then-shape-gt-SEATS_OF_ONE_LANE-clause-scans :
    goal.returns-then-shape-gt-SEATS_OF_ONE_LANE-clause-scans
returns-then-shape-gt-SEATS_OF_ONE_LANE-clause-scans g c =
    let more = reap_scans _ c.args.domain.now _ c.reap.result c.args.seat.now c.reap.new.seat
    c.reap.ensures.reaps in
    let last = collect_scans _ c.args.domain.now c.reap.new.seat c.collect.new.seat c.collect.ensures in
    omega arith

pub returns-then-shape-gt-SEATS_OF_ONE_LANE-clause-ready :
    goal.returns-then-shape-gt-SEATS_OF_ONE_LANE-clause-ready
returns-then-shape-gt-SEATS_OF_ONE_LANE-clause-ready g c =
    ready_collect c.reap.new.seat c.collect.new.seat
    (copy_ready c.args.seat.now c.reap.new.seat c.requires.ready
    (owns_reap _ c.args.domain.now c.args.seat.now c.reap.new.seat _ c.reap.result
    c.reap.ensures.reaps c.reap.ensures.objects)
    c.reap.ensures.client c.reap.ensures.room c.reap.ensures.rest)
    c.collect.ensures

pub returns-else-shape-gt-SEATS_OF_ONE_LANE-clause-owns :
    goal.returns-else-shape-gt-SEATS_OF_ONE_LANE-clause-owns
returns-else-shape-gt-SEATS_OF_ONE_LANE-clause-owns g c =
    owns_reap _ c.args.domain.now c.args.seat.now c.reap.new.seat _ c.reap.result
    c.reap.ensures.reaps c.reap.ensures.objects

pub returns-else-shape-gt-SEATS_OF_ONE_LANE-clause-scans :
    goal.returns-else-shape-gt-SEATS_OF_ONE_LANE-clause-scans
returns-else-shape-gt-SEATS_OF_ONE_LANE-clause-scans g c =
    reap_scans _ c.args.domain.now _ c.reap.result c.args.seat.now c.reap.new.seat
    c.reap.ensures.reaps

pub returns-else-shape-gt-SEATS_OF_ONE_LANE-clause-ready :
    goal.returns-else-shape-gt-SEATS_OF_ONE_LANE-clause-ready
returns-else-shape-gt-SEATS_OF_ONE_LANE-clause-ready g c =
    copy_ready c.args.seat.now c.reap.new.seat c.requires.ready
    (owns_reap _ c.args.domain.now c.args.seat.now c.reap.new.seat _ c.reap.result
    c.reap.ensures.reaps c.reap.ensures.objects)
    c.reap.ensures.client c.reap.ensures.room c.reap.ensures.rest
