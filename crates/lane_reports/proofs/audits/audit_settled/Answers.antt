use Rattle.domain_audit.specs.Audits.{numbers}
use Rattle.lane_reports.proofs.Audited.{is_audited, objects_same}
use Rattle.lane_reports.proofs.Trails.{audit_alone, stays_alone}
use Rattle.lane_reports.proofs.audits.audit_settled.Goals as goal

pub returns-then-tail_is_null-clause-found : goal.returns-then-tail_is_null-clause-found
returns-then-tail_is_null-clause-found g c =
    let audit = c.audit_by_number.ensures in
    is_audited _ _ (numbers c.args.domain.now.shape.slots) c.args.domain.now c.args.root.now
    c.audit_by_number.new.seat
    c.holds_nothing-head_is_null.new.root c.holds_nothing-tail_is_null.new.root
    c.in_ok-found.found c.requires.cells audit.stays audit.whole audit.objects audit.client
    c.holds_nothing-head_is_null.ensures.learns c.holds_nothing-tail_is_null.ensures.learns
    c.holds_nothing-tail_is_null.ensures.rest c.requires.settled c.requires.under_none
    c.requires.weakly c.in_ok-found.ensures.found c.if-found-eq0.true
    (c.holds_nothing-head_is_null.ensures.nothing c.if-head_is_null.true)
    (c.holds_nothing-tail_is_null.ensures.nothing c.if-tail_is_null.true)

pub returns-then-tail_is_null-clause-objects : goal.returns-then-tail_is_null-clause-objects
returns-then-tail_is_null-clause-objects g c =
    let audit = c.audit_by_number.ensures in
    objects_same _ (λ words. 0) (numbers c.args.domain.now.shape.slots) c.args.domain.now
    c.args.root.now
    c.audit_by_number.new.seat c.holds_nothing-head_is_null.new.root
    c.holds_nothing-tail_is_null.new.root c.in_ok-found.found c.requires.cells audit.stays
    audit.whole audit.objects audit.client c.holds_nothing-head_is_null.ensures.learns
    c.holds_nothing-tail_is_null.ensures.learns

pub returns-clause-objects : goal.returns-clause-objects
returns-clause-objects g c =
    let audit = c.audit_by_number.ensures in
    objects_same _ (λ words. 0) (numbers c.args.domain.now.shape.slots) c.args.domain.now
    c.args.root.now
    c.audit_by_number.new.seat c.holds_nothing-head_is_null.new.root
    c.holds_nothing-tail_is_null.new.root c.in_ok-found.found c.requires.cells audit.stays
    audit.whole audit.objects audit.client c.holds_nothing-head_is_null.ensures.learns
    c.holds_nothing-tail_is_null.ensures.learns

pub returns-then-tail_is_null-clause-trail : goal.returns-then-tail_is_null-clause-trail
returns-then-tail_is_null-clause-trail g c =
    audit_alone _ c.args.domain.now c.args.root.now c.audit_by_number.new.seat
    c.holds_nothing-head_is_null.new.root c.holds_nothing-tail_is_null.new.root
    c.audit_by_number.ensures.stays c.holds_nothing-head_is_null.ensures.learns
    c.holds_nothing-tail_is_null.ensures.learns

pub returns-clause-trail : goal.returns-clause-trail
returns-clause-trail g c =
    audit_alone _ c.args.domain.now c.args.root.now c.audit_by_number.new.seat
    c.holds_nothing-head_is_null.new.root c.holds_nothing-tail_is_null.new.root
    c.audit_by_number.ensures.stays c.holds_nothing-head_is_null.ensures.learns
    c.holds_nothing-tail_is_null.ensures.learns

pub returns-in_err-found-clause-trail : goal.returns-in_err-found-clause-trail
returns-in_err-found-clause-trail g c =
    stays_alone _ c.args.domain.now c.args.root.now c.audit_by_number.new.seat
    c.audit_by_number.ensures.stays
