use Rattle.std.proofs.Common.{◌≡◌, ◌≤◌, ◌++◌, List}
use Rattle.std.specs.Prelude.{vec_len}
use Rattle.lane_work.specs.Keeping.{slots_of}
use Rattle.lane_work.specs.counted_handles.Handles.{Handle}
use Rattle.cell_lanes.specs.Keeping.{GivesUp}
use Rattle.cell_lanes.specs.Ready.{IsReady}
use Rattle.cell_lanes.proofs.keeping.give_back.Given as goal

abbrev pub invariant-loop-keeper : goal.invariant-loop-keeper
invariant-loop-keeper l = record {
  ready : IsReady l.domain l.seat;
  client : l.seat.view.client ≡ l.fn.seat.view.client;
  first : l.first ≤ vec_len l.keeper.kept;
  gone : (gone : List Handle) × (l.fn.keeper.kept.items ≡ l.keeper.kept.items ++ gone)
      × GivesUp (slots_of gone) l.fn.seat l.seat;
}

abbrev pub decreases-loop-keeper : goal.decreases-loop-keeper
decreases-loop-keeper l = vec_len l.keeper.kept
