use Rattle.epoch_domain.proofs.Images.{read_knows, read_stays}
use Rattle.epoch_domain.proofs.domain.EpochDomain.learn.Goals as goal

pub returns-clause-stays : goal.returns-clause-stays
returns-clause-stays g c =
    let read = c.read-base.ensures in
    read_stays c.args.self.now g.P.Kind.PayloadKind.fits c.args.seat.now c.read-base.new.seat _ _
    read.table read.read read.carries c.requires.knows

pub returns-clause-knows : goal.returns-clause-knows
returns-clause-knows g c =
    let read = c.read-base.ensures in
    read_knows c.args.self.now g.P.Kind.PayloadKind.fits c.args.seat.now c.read-base.new.seat _ _
    read.table read.read read.carries c.requires.knows c.requires.table c.requires.here
