use Rattle.std.proofs.Common.{ap}
use Rattle.part_calls.proofs.SeenCalls.{drops_seen}
use Rattle.part_calls.proofs.handles.drop_strong.Goals as goal

pub returns-clause-dropped : goal.returns-clause-dropped
returns-clause-dropped g c =
    drops_seen g.P.Kind.PayloadKind.fits g.P.Part.part g.P.Part.seen c.args.domain.now
    c.args.handle.slot c.args.seat.now c.drop_strong.new.seat c.drop_strong.ensures.dropped

pub returns-clause-seen : goal.returns-clause-seen
returns-clause-seen g c = ap g.P.Part.seen c.drop_strong.ensures.client

pub returns-clause-beside : goal.returns-clause-beside
returns-clause-beside g c = ap (λ v. g.P.Part.with_seen v g.Q.Protocol.gone)
    c.drop_strong.ensures.client
