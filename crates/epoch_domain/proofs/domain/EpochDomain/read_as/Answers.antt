use Rattle.epoch_domain.proofs.Knowing.{read_requires}
use Rattle.epoch_domain.proofs.domain.EpochDomain.read_as.Goals as goal

pub load-requires : goal.load-requires
load-requires g c = read_requires g.P.Protocol.law g.P.Protocol.first g.P.Protocol.gone g.P.Kind.PayloadKind.fits
    c.args.self.now g.B.Site.site c.requires.site c.args.seat.now c.args.word c.requires.table
    c.requires.here c.requires.word _ c.self.view_is _ c.self.invariant

pub returns-clause-read : goal.returns-clause-read
returns-clause-read g c = (c.load.ensures.2 c.args.self.now c.requires.site).0

pub returns-clause-carries : goal.returns-clause-carries
returns-clause-carries g c = (c.load.ensures.2 c.args.self.now c.requires.site).1
