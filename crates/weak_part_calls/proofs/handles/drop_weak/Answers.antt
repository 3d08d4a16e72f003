use Rattle.std.proofs.Common.{ap}
use Rattle.weak_part_calls.proofs.WeakCalls.{drops_weak_seen}
use Rattle.weak_part_calls.proofs.handles.drop_weak.Goals as goal

pub returns-clause-dropped : goal.returns-clause-dropped
returns-clause-dropped g c =
    drops_weak_seen g.P.Kind.PayloadKind.fits g.P.Part.part g.P.Part.seen c.args.domain.now
    c.args.weak.slot c.args.seat.now c.drop_weak.new.seat c.drop_weak.ensures.dropped

pub returns-clause-seen : goal.returns-clause-seen
returns-clause-seen g c = ap g.P.Part.seen c.drop_weak.ensures.client

pub returns-clause-beside : goal.returns-clause-beside
returns-clause-beside g c =
    ap (λ v. g.P.Part.with_seen v g.Q.Protocol.gone) c.drop_weak.ensures.client
