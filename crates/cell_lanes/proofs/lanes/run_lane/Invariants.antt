use Rattle.cell_lanes.specs.Lanes.{CountsTickets, taken_of}
use Rattle.cell_lanes.specs.Ready.{IsReady}
use Rattle.cell_lanes.proofs.lanes.run_lane.Given as goal

abbrev pub invariant-loop-ticket : goal.invariant-loop-ticket
invariant-loop-ticket g l = record {
  ready : IsReady l.domain l.seat;
  counts : CountsTickets l.domain l.work (taken_of l.work l.lanes l.fn.lane.number l.ticket)
      l.fn.seat l.seat l.fn.lane l.lane;
}
