use Rattle.protected_loads.proofs.Losing.{one_lost}
use Rattle.protected_loads.proofs.retrying.load.Goals as goal

pub loop-preserved : goal.loop-preserved
loop-preserved g c = (
  tt,
  tt,
  one_lost g.P.Kind.PayloadKind.fits c.args.domain.now c.args.place 0
      (g.D.Deed.next c.args.deed c.args.domain.now.protocol)
      (g.D.Deed.allows c.args.deed c.args.domain.now.protocol) c.args.seat.now c.loop.seat
      c.loop.invariant.2 c.in_default.field-0.seen c.in_default.field-0.now c.load_once.new.seat
      (c.in_default.ensures {u = tt}).moved c.load_once.ensures.objects c.load_once.ensures.rest,
)
