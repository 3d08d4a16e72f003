use Rattle.cell_lanes.proofs.Owning.{gives_one}
use Rattle.cell_lanes.proofs.keeping.give_up.Goals as goal

pub returns-clause-gives : goal.returns-clause-gives
returns-clause-gives c =
    gives_one _ c.args.domain.now c.args.handle.slot c.e_drop.ensures.dropped.0 c.args.seat.now
    c.e_drop.new.seat c.requires.owned c.e_drop.ensures.dropped.1
