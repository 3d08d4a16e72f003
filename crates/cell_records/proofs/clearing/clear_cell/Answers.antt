use Rattle.std.proofs.Common.{◌<◌, arith}
use Rattle.cell_intern.specs.cell_calls.Cells.{area_of}
use Rattle.cell_intern.specs.cell_calls.cell_law.Lessons.{ClearTells, clear_next}
use Rattle.cell_rest.specs.directory_law.Bytes.{IsPiece}
use Rattle.epoch_alone.proofs.Clearing.{clears}
use Rattle.cell_intern.specs.epoch_refs.epoch_rule.Views.{own_of}
use Rattle.cell_records.proofs.Cleared.{clear_ready}
use Rattle.cell_records.proofs.clearing.clear_cell.Goals as goal

pub e_store-requires-clause-deed : goal.e_store-requires-clause-deed
e_store-requires-clause-deed c w =
    let law = c.args.domain.now.protocol in
    let over = c.requires.ready.over in
    let cells = over.cells in
    let low = c.requires.cell in
    let inside : c.args.cell < law.cells = omega (arith, cells, low) in
    clear_ready (area_of law) (own_of c.args.root.now.view) c.args.root.now.view.client c.args.cell
    over.first inside (c.lone_knows.ensures c.requires.ready.alone)

pub returns-in-Ok-clause-clears : goal.returns-in-Ok-clause-clears
returns-in-Ok-clause-clears c =
    clears IsPiece c.args.domain.now clear_next (ClearTells (area_of c.args.domain.now.protocol))
    c.args.cell c.args.root.now c.e_store.new.seat c.in-Ok.ensures.stored
    (c.lone_knows.ensures c.requires.ready.alone)
