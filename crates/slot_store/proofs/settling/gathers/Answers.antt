use Rattle.slot_store.proofs.Quieting.{none_next, tells_more}
use Rattle.slot_store.proofs.settling.gathers.Goals as goal

pub returns : goal.returns
returns g c =
    let none = none_next c.collect.new.seat.view.core.ripe c.next_ripe.result
    c.next_ripe.ensures.none c.is_some.result c.is_some.ensures c.if-is_some.false in
    tells_more c.args.domain.now c.args.seat.now c.collect.new.seat c.collect.ensures c.requires.rest
    none c.deferred.result c.deferred-deferred.result c.deferred.ensures.count
    c.deferred-deferred.ensures.count
