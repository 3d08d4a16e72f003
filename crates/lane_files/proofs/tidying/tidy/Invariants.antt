use Rattle.std.proofs.Common.{◌≡◌, ◌≤◌, ◌+◌}
use Rattle.lane_files.specs.Ready.{IsReady, Owns}
use Rattle.lane_files.specs.Scans.{scans_of}
use Rattle.lane_files.proofs.tidying.tidy.Given as goal

abbrev pub invariant-loop-turn : goal.invariant-loop-turn
invariant-loop-turn g l = record {
  ready : IsReady l.domain l.shared l.seat;
  client : l.seat.view.client ≡ l.fn.seat.view.client;
  owns : Owns l.fn.seat.view.core.owned l.fn.seat l.seat;
  makes : l.seat.view.core.makes ≡ l.fn.seat.view.core.makes;
  scans : scans_of l.fn.seat + 1 ≤ scans_of l.seat;
}
