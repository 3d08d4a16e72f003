use Rattle.epoch_domain.proofs.Openings.{another_requires}
use Rattle.epoch_domain.proofs.domain.EpochDomain.open_another_as.Goals as goal

pub split_seat-requires : goal.split_seat-requires
split_seat-requires g c = another_requires g.P.Protocol.law g.P.Protocol.first g.P.Protocol.gone
    g.P.Kind.PayloadKind.fits c.args.self.now g.B.Site.site c.requires.site c.args.root.now
    c.requires.root c.requires.more _ c.self.view_is _ c.self.invariant
