use Rattle.epoch_domain.proofs.Steps.{step_requires, step_made}
use Rattle.epoch_domain.proofs.domain.EpochDomain.load_as.Goals as goal

pub load-requires : goal.load-requires
load-requires g c = step_requires g.P.Protocol.law g.P.Protocol.first g.P.Protocol.gone
    g.P.Kind.PayloadKind.fits g.P.Protocol.calm g.D.Deed.ready g.D.Deed.next g.D.Deed.allows g.met.D.Deed.keeps
    c.args.self.now c.args.deed c.args.act g.B.Aim.aim c.requires.aim.aims c.args.seat.now c.requires.can
    _ c.self.view_is _ c.self.invariant c.args.word c.requires.aim.at _ c.requires.aim.changes

pub returns : goal.returns
returns g c = step_made g.P.Protocol.law g.P.Protocol.first g.P.Protocol.gone
    g.P.Kind.PayloadKind.fits g.P.Protocol.calm g.D.Deed.ready g.D.Deed.next g.D.Deed.allows g.met.D.Deed.keeps
    c.args.self.now c.args.deed c.args.act g.B.Aim.aim c.requires.aim.aims c.args.seat.now c.requires.can
    _ _ c.load.ensures.0 c.load.ensures.2
