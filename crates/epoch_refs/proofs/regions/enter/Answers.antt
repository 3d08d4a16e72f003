use Rattle.epoch_refs.proofs.Entering.{entered}
use Rattle.epoch_refs.proofs.regions.enter.Goals as goal

pub returns-clause-entered : goal.returns-clause-entered
returns-clause-entered g c =
    entered _ c.args.domain.now c.args.seat.now c.open_region.new.seat c.open_region.ensures
    c.requires.rest.1
