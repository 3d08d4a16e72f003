use Rattle.std.proofs.Common.{◌≡◌, []}
use Rattle.lane_domain.specs.lane_files.Passed.{Takes, UsesInterns}
use Rattle.lane_domain.specs.lane_files.Ready.{IsReady, Owns}
use Rattle.lane_reports.proofs.popping.take_next.Given as goal

abbrev pub invariant-loop-try : goal.invariant-loop-try
invariant-loop-try g l = record {
  ready : IsReady l.domain l.shared l.seat;
  takes : Takes [] 0 l.fn.seat.view.client l.seat.view.client l.fn.tally l.tally;
  makes : l.seat.view.core.makes ≡ l.fn.seat.view.core.makes;
  interns : UsesInterns 0 l.fn.seat.view.client l.seat.view.client;
  owns : Owns l.fn.seat.view.core.owned l.fn.seat l.seat;
}
