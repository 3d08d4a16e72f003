use Rattle.std.proofs.Common.{◌≡◌, []}
use Rattle.lane_domain.specs.lane_files.Passed.{Takes, UsesInterns}
use Rattle.lane_domain.specs.lane_files.Ready.{IsReady, Owns}
use Rattle.lane_reports.proofs.popping.take_all.Given as goal

abbrev pub invariant-loop-taken : goal.invariant-loop-taken
invariant-loop-taken g l = record {
  ready : IsReady l.domain l.shared l.seat;
  takes : Takes [] l._taken l.fn.seat.view.client l.seat.view.client l.fn.tally l.tally;
  makes : l.seat.view.core.makes ≡ l.fn.seat.view.core.makes;
  interns : UsesInterns 0 l.fn.seat.view.client l.seat.view.client;
  owns : Owns l.fn.seat.view.core.owned l.fn.seat l.seat;
}
