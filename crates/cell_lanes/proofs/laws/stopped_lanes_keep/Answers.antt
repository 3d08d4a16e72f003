use Rattle.cell_lanes.proofs.Endings.{stopped_alone, stopped_grows, stopped_keeps, stopped_kept, stopped_misses}
use Rattle.cell_lanes.proofs.laws.stopped_lanes_keep.Goals as goal

pub returns : goal.returns
returns c = record {
  keeps = stopped_keeps;
  kept = stopped_kept;
  grows = stopped_grows;
  misses = stopped_misses;
  alone = stopped_alone;
}
