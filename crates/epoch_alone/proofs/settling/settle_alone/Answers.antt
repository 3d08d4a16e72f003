use Rattle.epoch_alone.proofs.CellsStay.{settles_cells}
use Rattle.epoch_alone.proofs.Known.{core_of}
use Rattle.epoch_alone.proofs.Flushed.{flushed_alone, flushed_free}
use Rattle.epoch_alone.proofs.settling.settle_alone.Goals as goal

pub returns-clause-cells : goal.returns-clause-cells
returns-clause-cells g c =
    let k = core_of c.args.seat.now.view (c.alone-alone.ensures.knows c.requires.alone) in
    settles_cells _ c.args.domain.now _ c.settle_epochs.result c.args.seat.now c.settle_epochs.new.seat
    c.requires.free.rest.0.1 c.settle_epochs.ensures.rest.0.1 k.0 k.1 c.settle_epochs.ensures.settled

pub returns-clause-free : goal.returns-clause-free
returns-clause-free g c =
    flushed_free c.args.domain.now c.args.seat.now c.settle_epochs.new.seat
    c.settle_epochs.ensures.stays.core c.settle_epochs.ensures.rest c.requires.free

pub returns-clause-alone : goal.returns-clause-alone
returns-clause-alone g c =
    flushed_alone c.args.seat.now.view c.settle_epochs.new.seat.view c.settle_epochs.ensures.stays.core
    c.requires.alone
