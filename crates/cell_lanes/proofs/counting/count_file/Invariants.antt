use Rattle.std.specs.Prelude.{take}
use Rattle.lane_work.specs.FilePieces.{pieces_in}
use Rattle.cell_lanes.specs.Ready.{IsReady}
use Rattle.cell_lanes.proofs.Counted.{IsCounted}
use Rattle.cell_lanes.proofs.counting.count_file.Given as goal

abbrev pub invariant-loop-number : goal.invariant-loop-number
invariant-loop-number g l = record {
  ready : IsReady l.domain l.seat;
  counts : IsCounted l.domain (take l.number (pieces_in l.file)) l.fn.seat l.seat l.fn.lane l.lane;
}
