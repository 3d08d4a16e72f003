use Rattle.std.proofs.Common.{◌≡◌, ◌<◌, true}
use Rattle.cell_records.specs.Root.{IsRoot}
use Rattle.cell_records.proofs.Cleared.{KnowsOwned, StaysBesides, with_cleared}
use Rattle.cell_records.proofs.Nulls.{KnowsNullUpto}
use Rattle.cell_records.proofs.clearing.clear_cells.Given as goal

abbrev pub invariant-loop-cell : goal.invariant-loop-cell
invariant-loop-cell l = record {
  ready : IsRoot l.domain l.root;
  core : StaysBesides l.fn.root.view.core l.root.view.core;
  client : with_cleared l.root.view.client ≡ with_cleared l.fn.root.view.client;
  some : 0 < l.cell → l.root.view.client.cleared ≡ true;
  objects : KnowsOwned l.fn.root l.root;
  null : KnowsNullUpto l.cell l.root;
}
