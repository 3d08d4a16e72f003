use Rattle.std.proofs.Common.{◌∙◌, arith}
use Rattle.epoch_domain.proofs.Wholes.{closed_last}
use Rattle.epoch_domain.proofs.domain.EpochDomain.close.Goals as goal

-- the table has no slot
pub free-requires : goal.free-requires
free-requires g c k low =
    let none = c.close_with.ensures.counts.1 ∙ c.self.invariant.slots in absurd (omega arith)

pub returns : goal.returns
returns g c =
    let f = c.close_with.ensures.values.2 in
    closed_last g.P.Protocol.law g.P.Protocol.first g.P.Protocol.gone g.P.Kind.PayloadKind.fits
    c.args.self _ c.self.view_is c.root.inside.seat _ _ c.root.view_is c.root.invariant.seated
    c.requires.alone f.0 f.1
