use Rattle.std.proofs.Common.{◌+◌, ◌*◌, ◌^◌, ◌≤◌}
use Rattle.lane_files.specs.Ready.{IsReady}
use Rattle.lane_files.proofs.Runs.{HasRun}
use Rattle.lane_files.proofs.drawing.run_lane.Given as goal

abbrev pub invariant-loop-draw : goal.invariant-loop-draw
invariant-loop-draw g l = record {
  ready : IsReady l.domain l.shared l.seat;
  run : HasRun l.work l._draw l.fn.seat l.seat l.fn.lane l.lane;
  turn : l.lane.turn ≤ l.fn.lane.turn + 2 ^ 20 * l._draw;
}
