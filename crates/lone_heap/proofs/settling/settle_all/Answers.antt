use Rattle.std.proofs.Common.{ap}
use Rattle.protected_loads.specs.core_events.declared.view.CoreView.{CoreView}
use Rattle.lone_heap.proofs.Settled.{settle_goes, settle_ready, settle_settled, settle_tidies}
use Rattle.lone_heap.proofs.settling.settle_all.Goals as goal

pub returns-clause-tidies : goal.returns-clause-tidies
returns-clause-tidies g c =
    settle_tidies c.args.domain.now g.P.Kind.PayloadKind.weight c.settle.result c.args.seat.now
    c.settle.new.seat c.requires.ready c.settle.ensures.settles c.settle.ensures.rest c.settle.ensures.same

pub returns-clause-settled : goal.returns-clause-settled
returns-clause-settled g c =
    settle_settled c.args.domain.now g.P.Kind.PayloadKind.weight c.settle.result c.args.seat.now
    c.settle.new.seat c.requires.ready c.settle.ensures.settles c.settle.ensures.rest c.settle.ensures.same c.settle.ensures.quiet

pub returns-clause-ready : goal.returns-clause-ready
returns-clause-ready g c =
    settle_ready c.args.domain.now g.P.Kind.PayloadKind.weight c.settle.result c.args.seat.now
    c.settle.new.seat c.requires.ready c.settle.ensures.settles c.settle.ensures.rest c.settle.ensures.same c.settle.ensures.room

pub returns-clause-notes : goal.returns-clause-notes
returns-clause-notes g c = ap (λ (v : CoreView). v.notes) c.settle.ensures.same

pub returns-clause-trail : goal.returns-clause-trail
returns-clause-trail g c =
    settle_goes c.args.domain.now g.P.Kind.PayloadKind.weight c.settle.result c.args.seat.now
    c.settle.new.seat c.requires.ready c.settle.ensures.settles
