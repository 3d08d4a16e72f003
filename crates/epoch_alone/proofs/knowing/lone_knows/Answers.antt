use Rattle.epoch_alone.proofs.Known.{knows_whole}
use Rattle.epoch_alone.proofs.knowing.lone_knows.Goals as goal

pub returns : goal.returns
returns g c alone = knows_whole c.args.seat.now.view (c.alone-alone.ensures.knows alone)
