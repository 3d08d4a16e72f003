use Rattle.std.proofs.Common.{◌≤◌, take}
use Rattle.std.specs.List.{sum_by}
use Rattle.tally_sums.specs.cdrc_text.Tally.{total_of}
use Rattle.lane_reports.proofs.taking.all_counted.Given as goal

abbrev pub invariant-loop-tally : goal.invariant-loop-tally
invariant-loop-tally l = l.sum ≤ sum_by total_of (take l.tally-index l.tallies)
