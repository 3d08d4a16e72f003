use Rattle.std.proofs.Common.{ap, arith}
use Rattle.epoch_alone.specs.epoch_core.declared.shape.EpochShape.{EpochShape}
use Rattle.cell_records.proofs.Cleared.{cleared_is}
use Rattle.cell_records.proofs.Nulls.{null_all}
use Rattle.cell_records.proofs.clearing.clear_cells.Goals as goal

pub returns-clause-clears : goal.returns-clause-clears
returns-clause-clears c =
    let so = c.loop-cell.invariant in
    let past = c.loop-cell-test.false in
    let count = ap (λ (z : EpochShape). z.cells) c.shape-cell-end.ensures in
    let some = c.requires.ready.over.some_cells in record {
      null = null_all c.args.domain.now.shape c.loop-cell.root so.ready.free.rest.0.1
          (λ p knows j low. so.null p knows j (omega (arith, past, count, low)));
      core = so.core;
      client = cleared_is c.args.root.now.view.client c.loop-cell.root.view.client so.client
          (so.some (omega (arith, past, count, some)));
      objects = so.objects;
    }
