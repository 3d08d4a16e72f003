use Rattle.std.proofs.Common.{◌≡◌, ◌+◌}
use Rattle.std.specs.Prelude.{take}
use Rattle.lane_files.specs.Ready.{IsReady}
use Rattle.lane_files.specs.FilePieces.{pieces_in}
use Rattle.lane_files.proofs.Counted.{IsCounted}
use Rattle.lane_files.proofs.counting.count_file.Given as goal

abbrev pub invariant-loop-number : goal.invariant-loop-number
invariant-loop-number g l = record {
  ready : IsReady l.domain l.shared l.seat;
  counts : IsCounted (take l.number (pieces_in l.file)) l.fn.seat l.seat l.fn.lane l.lane;
  turn : l.lane.turn ≡ l.fn.lane.turn + l.number;
  number : l.lane.number ≡ l.fn.lane.number;
}
