use Rattle.std.proofs.lemmas.Result.{IfOk-weaker}
use Rattle.example_cache.proofs.Raising.{raise_gives}
use Rattle.example_cache.proofs.recalling.raise.Goals as goal

pub returns-clause-raised : goal.returns-clause-raised
returns-clause-raised g c =
    IfOk-weaker c.upgrade-raised.result _ _ (λ strong gained. (
      gained.0,
      record {
        counted = c.upgrade-raised.new.seat;
        gains = gained.1;
        drops = c.drop_weak.ensures.dropped;
      },
    )) c.upgrade-raised.ensures.upgraded

pub returns-clause-ended : goal.returns-clause-ended
returns-clause-ended g c is = record {
  late = c.upgrade-raised.new.seat;
  finds = c.upgrade-raised.ensures.ended is;
  drops = c.drop_weak.ensures.dropped;
}

pub returns-clause-gives : goal.returns-clause-gives
returns-clause-gives g c =
    raise_gives g.K.PayloadKind.fits c.args.domain.now c.args.weak.slot c.args.seat.now
    c.upgrade-raised.new.seat c.drop_weak.new.seat c.requires.owned
    c.upgrade-raised.ensures.objects c.drop_weak.ensures.dropped c.drop_weak.ensures.objects
    c.upgrade-raised.result c.upgrade-raised.ensures.upgraded c.upgrade-raised.ensures.ended
    c.upgrade-raised.ensures.refused
