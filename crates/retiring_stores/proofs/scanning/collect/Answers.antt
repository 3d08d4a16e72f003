use Rattle.retiring_stores.proofs.Gathering.{collected}
use Rattle.retiring_stores.proofs.scanning.collect.Goals as goal

pub returns : goal.returns
returns g c =
    collected c.args.domain.now c.args.seat.now c.collect.new.seat c.requires.rest c.collect.result
    c.collect.ensures
