use Rattle.lone_heap.proofs.Owning.{drop_ready, drop_shown}
use Rattle.lone_heap.proofs.Trailing.{becomes_goes}
use Rattle.lone_heap.proofs.references.give.Goals as goal

pub returns-clause-gives : goal.returns-clause-gives
returns-clause-gives g c =
    drop_shown c.args.domain.now c.args.handle.slot c.args.seat.now c.drop_strong.new.seat
    c.requires.ready c.drop_strong.ensures.rest c.drop_strong.ensures.room c.drop_strong.ensures.dropped

pub returns-clause-ready : goal.returns-clause-ready
returns-clause-ready g c =
    drop_ready c.args.domain.now c.args.handle.slot c.args.seat.now c.drop_strong.new.seat
    c.requires.ready c.drop_strong.ensures.rest c.drop_strong.ensures.room c.drop_strong.ensures.dropped

pub returns-clause-trail : goal.returns-clause-trail
returns-clause-trail g c =
    becomes_goes c.args.domain.now c.args.seat.now c.drop_strong.new.seat c.drop_strong.ensures.dropped.1
