use Rattle.cell_intern.proofs.Below.cell_making_Kept.{drop_keeps}
use Rattle.cell_records.proofs.Dropped.{drop_cells, drop_owns}
use Rattle.cell_records.proofs.Nulls.{null_both}
use Rattle.cell_records.proofs.Staying.{root_on}
use Rattle.cell_records.proofs.giving.give_one.Goals as goal

pub returns-clause-owned : goal.returns-clause-owned
returns-clause-owned c =
    let dropped = c.e_drop.ensures.dropped in
    drop_owns _ c.args.domain.now c.args.handle.slot dropped.0 c.args.root.now c.e_drop.new.seat
    dropped.1 c.requires.owned

pub returns-clause-client : goal.returns-clause-client
returns-clause-client c = c.e_drop.ensures.dropped.1.told.client

pub returns-clause-null : goal.returns-clause-null
returns-clause-null c =
    let dropped = c.e_drop.ensures.dropped in
    null_both c.args.root.now c.e_drop.new.seat
    (drop_cells _ c.args.domain.now c.args.handle.slot dropped.0 c.args.root.now c.e_drop.new.seat
    dropped.1 c.requires.ready.free.rest.0.1 c.e_drop.ensures.rest.0.1
    (c.lone_knows.ensures c.requires.ready.alone))

pub returns-clause-ready : goal.returns-clause-ready
returns-clause-ready c =
    let dropped = c.e_drop.ensures.dropped in
    root_on c.args.domain.now 0 0 _ c.args.root.now c.e_drop.new.seat
    (drop_keeps _ c.args.domain.now c.args.root.now c.e_drop.new.seat c.args.handle.slot dropped.0
    dropped.1) c.e_drop.ensures.rest c.requires.ready
