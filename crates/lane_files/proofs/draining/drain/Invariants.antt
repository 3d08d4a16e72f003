use Rattle.std.proofs.Common.{[]}
use Rattle.lane_files.specs.Passed.{Takes, UsesInterns}
use Rattle.lane_files.specs.Ready.{IsReady, Owns}
use Rattle.std.specs.Prelude.{◌≡◌}
use Rattle.lane_files.proofs.draining.drain.Given as goal

abbrev pub invariant-loop-taken : goal.invariant-loop-taken
invariant-loop-taken g l = record {
  ready : IsReady l.domain l.shared l.seat;
  takes : Takes [] l.taken l.fn.seat.view.client l.seat.view.client l.fn.tally l.tally;
  makes : l.seat.view.core.makes ≡ l.fn.seat.view.core.makes;
  interns : UsesInterns 0 l.fn.seat.view.client l.seat.view.client;
  owns : Owns l.fn.seat.view.core.owned l.fn.seat l.seat;
}
