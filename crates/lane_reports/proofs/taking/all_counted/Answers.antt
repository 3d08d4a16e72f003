use Rattle.std.proofs.Common.{◌+◌, ◌≤◌, take, subst, sym, arith}
use Rattle.std.specs.List.{sum_by}
use Rattle.std.proofs.lemmas.List.{take_all}
use Rattle.tally_sums.specs.cdrc_text.Tally.{total_of}
use Rattle.tally_sums.specs.Sums.{Tallies}
use Rattle.lane_reports.proofs.Slots.{one_more}
use Rattle.lane_reports.proofs.Counts.{tallies_push}
use Rattle.lane_reports.proofs.taking.all_counted.Goals as goal

pub loop-tally-preserved : goal.loop-tally-preserved
loop-tally-preserved c =
    let more = tallies_push (take (c.loop-tally.tally-index + 1) c.args.tallies.now)
    (take c.loop-tally.tally-index c.args.tallies.now) c.tally-item.result
    (one_more c.args.tallies.now c.loop-tally.tally-index c.tally-item.result (omega arith)
    (sym c.tally-item.is)) in
    let so_far = c.loop-tally.invariant in
    let one = c.total.ensures in
    let sum = c.saturating_add-sum.ensures in omega (arith, more, so_far, one, sum)

pub returns : goal.returns
returns c =
    subst (λ (ts : Tallies). c.loop-tally.sum ≤ sum_by total_of ts)
    (take_all c.loop-tally.tally-index c.args.tallies.now (omega arith)) c.loop-tally.invariant
