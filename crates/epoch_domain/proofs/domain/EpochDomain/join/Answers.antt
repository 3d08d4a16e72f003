use Rattle.epoch_domain.proofs.Joining.{has_joined}
use Rattle.epoch_domain.proofs.domain.EpochDomain.join.Goals as goal

pub returns : goal.returns
returns g c =
    has_joined g.P.Kind.PayloadKind.fits c.args.self.now
    (g.P.Protocol.joined c.args.self.now.protocol) c.args.root.now c.args.seat
    c.join_as.new.root c.read-base.new.seat c.read-base.result c.requires c.join_as.ensures.table
    c.join_as.ensures.me c.read-base.ensures.table c.read-base.ensures.read
    c.read-base.ensures.carries
