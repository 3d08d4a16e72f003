use Rattle.epoch_domain.proofs.Leavings.{join_requires}
use Rattle.epoch_domain.proofs.domain.EpochDomain.join_as.Goals as goal

pub join_seat-requires : goal.join_seat-requires
join_seat-requires g c = join_requires g.P.Protocol.law g.P.Protocol.first
    g.P.Kind.PayloadKind.fits g.P.Protocol.joined g.P.Protocol.gone g.P.Protocol.leave
    c.args.self.now g.B.Site.site c.requires.site c.args.root.now c.args.seat c.requires.may _
    c.self.view_is _ c.self.invariant
