use Rattle.std.proofs.Common.{ap}
use Rattle.structure_tests.specs.Ready.{View}
use Rattle.structure_tests.proofs.Kept.{ready_as, seen_owned}
use Rattle.structure_tests.proofs.calls.read_word.Goals as goal

pub returns-clause-owned : goal.returns-clause-owned
returns-clause-owned c =
    seen_owned _ c.args.domain.now c.args.seat.now c.read.new.seat c.args.slot c.args.word
    c.read.result c.read.ensures.seen

pub returns-clause-ready : goal.returns-clause-ready
returns-clause-ready c =
    ready_as c.args.domain.now c.args.seat.now c.read.new.seat c.requires.ready
    c.read.ensures.notes (ap (λ (v : View). v.0) c.read.ensures.client)
    (c.read.ensures.room c.requires.ready.free.room) c.read.ensures.rest
