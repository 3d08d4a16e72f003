use Rattle.std.proofs.Common.{ap, length, ◌∙◌, sym}
use Rattle.protected_loads.specs.plain_state.State.{PlainSeat}
use Rattle.protected_loads.specs.core_events.declared.view.CoreView.{CoreView}
use Rattle.lone_heap.proofs.Audited.{audits, ranks_there, stays_ready, stays_same}
use Rattle.lone_heap.proofs.Trailing.{becomes_goes}
use Rattle.lone_heap.proofs.auditing.audit_lone.Goals as goal

pub audit_domain-requires-clause-none_dying : goal.audit_domain-requires-clause-none_dying
audit_domain-requires-clause-none_dying g c =
    ap (λ (v : PlainSeat). v.dying) (sym c.requires.ready.mine) ∙ c.requires.settled.destroyed

pub audit_domain-requires-clause-ranked : goal.audit_domain-requires-clause-ranked
audit_domain-requires-clause-ranked g c =
    ranks_there c.args.domain.now c.args.seat.now (length c.args.rank.now) c.requires.ranked

pub returns-clause-found : goal.returns-clause-found
returns-clause-found g c =
    audits g.P.Kind.PayloadKind.fits c.args.domain.now c.args.seat.now c.audit_domain.new.seat
    c.requires.ready c.audit_domain.ensures.stays c.audit_domain.ensures.rest
    c.audit_domain.ensures.whole g.P.Kind.PayloadKind.weight c.args.rank.now c.audit_domain.result
    c.audit_domain.ensures.found

pub returns-clause-same : goal.returns-clause-same
returns-clause-same g c =
    stays_same g.P.Kind.PayloadKind.fits c.args.domain.now c.args.seat.now c.audit_domain.new.seat
    c.requires.ready c.audit_domain.ensures.stays c.audit_domain.ensures.rest
    c.audit_domain.ensures.whole

pub returns-clause-notes : goal.returns-clause-notes
returns-clause-notes g c = ap (λ (v : CoreView). v.notes) c.audit_domain.ensures.stays.1.core

pub returns-clause-ready : goal.returns-clause-ready
returns-clause-ready g c =
    stays_ready g.P.Kind.PayloadKind.fits c.args.domain.now c.args.seat.now
    c.audit_domain.new.seat c.requires.ready c.audit_domain.ensures.stays
    c.audit_domain.ensures.rest c.audit_domain.ensures.whole c.audit_domain.ensures.room

pub returns-clause-trail : goal.returns-clause-trail
returns-clause-trail g c =
    becomes_goes c.args.domain.now c.args.seat.now c.audit_domain.new.seat
    c.audit_domain.ensures.stays.1
