use Rattle.std.proofs.Common.{ap}
use Rattle.std.specs.Prelude.{Ok}
use Rattle.protected_loads.specs.Loads.{Acquires}
use Rattle.protected_loads.proofs.Losing.{at_last, one_lost}
use Rattle.protected_loads.proofs.Remaining.{acquires}
use Rattle.protected_loads.proofs.reacquiring.acquire_at_last.Goals as goal

pub acquire-requires-clause-look : goal.acquire-requires-clause-look
acquire-requires-clause-look g c =
    (c.requires.deed c.loop.invariant.2.lost c.loop.seat c.loop.invariant.2.loses).look

pub acquire-requires-clause-check : goal.acquire-requires-clause-check
acquire-requires-clause-check g c =
    (c.requires.deed c.loop.invariant.2.lost c.loop.seat c.loop.invariant.2.loses).check

pub returns-in-Ok-clause-acquired : goal.returns-in-Ok-clause-acquired
returns-in-Ok-clause-acquired g c =
    (at_last g.P.Kind.PayloadKind.fits c.args.domain.now c.args.place c.args.note
    (g.D.Deed.next c.args.deed c.args.domain.now.protocol)
    (g.D.Deed.allows c.args.deed c.args.domain.now.protocol) c.args.seat.now c.loop.seat
    c.loop.invariant.2
    (Acquires g.P.Kind.PayloadKind.fits c.args.domain.now c.args.note c.args.place
    (g.D.Deed.next c.args.deed c.args.domain.now.protocol)
    (g.D.Deed.allows c.args.deed c.args.domain.now.protocol) c.in-Ok.found)
    c.acquire.new.seat
    (acquires g.P.Kind.PayloadKind.fits c.args.domain.now c.args.place
    (g.D.Deed.next c.args.deed c.args.domain.now.protocol)
    (g.D.Deed.allows c.args.deed c.args.domain.now.protocol) c.loop.seat c.acquire.new.seat
    c.args.note c.in-Ok.found (λ is. (c.in-Ok.ensures {u = tt}).null (ap Ok is))
    (c.in-Ok.ensures {u = tt}).protected)
    c.acquire.ensures.objects).0

pub loop-preserved : goal.loop-preserved
loop-preserved g c = (
  tt,
  tt,
  one_lost g.P.Kind.PayloadKind.fits c.args.domain.now c.args.place c.args.note
      (g.D.Deed.next c.args.deed c.args.domain.now.protocol)
      (g.D.Deed.allows c.args.deed c.args.domain.now.protocol) c.args.seat.now c.loop.seat
      c.loop.invariant.2 c.in_default.field-0.seen c.in_default.field-0.now c.acquire.new.seat
      (c.in_default.ensures {u = tt}).moved c.acquire.ensures.objects
      ((c.in_default.ensures {u = tt}).rest (λ slot is. absurd (cc (is)))),
)
