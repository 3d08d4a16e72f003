use Rattle.std.proofs.Common.{subst}
use Rattle.protected_loads.specs.plain_state.Places.{Holds}
use Rattle.protected_loads.specs.plain_state.State.{PlainSeat}
use Rattle.lone_heap.proofs.Counted.{sees_ready, sees_same, sees_there, sees_word}
use Rattle.lone_heap.proofs.Trailing.{becomes_goes}
use Rattle.lone_heap.proofs.telling.read.Goals as goal

pub returns-clause-word : goal.returns-clause-word
returns-clause-word g c =
    sees_word c.args.domain.now c.args.slot c.args.seat.now c.read.new.seat c.requires.ready
    c.args.word c.read.result c.read.ensures.seen

pub returns-clause-same : goal.returns-clause-same
returns-clause-same g c =
    sees_same c.args.domain.now c.args.slot c.args.seat.now c.read.new.seat c.requires.ready
    c.args.word c.read.result c.read.ensures.seen

pub returns-clause-ready : goal.returns-clause-ready
returns-clause-ready g c =
    sees_ready c.args.domain.now c.args.slot c.args.seat.now c.read.new.seat c.requires.ready
    c.args.word c.read.result c.read.ensures.seen c.read.ensures.rest c.read.ensures.room

pub returns-clause-there : goal.returns-clause-there
returns-clause-there g c =
    sees_there c.args.domain.now c.args.slot c.args.seat.now c.read.new.seat c.requires.ready
    c.args.word c.read.result c.read.ensures.seen
    (subst (λ (v : PlainSeat). Holds v c.args.slot) c.requires.ready.mine c.requires.holds)

pub returns-clause-trail : goal.returns-clause-trail
returns-clause-trail g c =
    becomes_goes c.args.domain.now c.args.seat.now c.read.new.seat c.read.ensures.seen.becomes
