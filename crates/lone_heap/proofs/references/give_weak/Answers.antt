use Rattle.lone_heap.proofs.Owning.{weak_drop_ready, weak_drop_shown}
use Rattle.lone_heap.proofs.Trailing.{becomes_goes}
use Rattle.lone_heap.proofs.references.give_weak.Goals as goal

pub returns-clause-gives : goal.returns-clause-gives
returns-clause-gives g c =
    weak_drop_shown c.args.domain.now c.args.weak.slot c.args.seat.now c.drop_weak.new.seat
    c.requires.ready c.drop_weak.ensures.rest c.drop_weak.ensures.room c.drop_weak.ensures.dropped

pub returns-clause-ready : goal.returns-clause-ready
returns-clause-ready g c =
    weak_drop_ready c.args.domain.now c.args.weak.slot c.args.seat.now c.drop_weak.new.seat
    c.requires.ready c.drop_weak.ensures.rest c.drop_weak.ensures.room c.drop_weak.ensures.dropped

pub returns-clause-trail : goal.returns-clause-trail
returns-clause-trail g c =
    becomes_goes c.args.domain.now c.args.seat.now c.drop_weak.new.seat c.drop_weak.ensures.dropped.1
