use Rattle.std.proofs.Common.{ap, ◌∙◌}
use Rattle.domain_audit.specs.core_events.declared.view.CoreView.{CoreView}
use Rattle.seat_life.proofs.Settling.{has_settled, quiet_dying}
use Rattle.seat_life.proofs.ending.settle_and_audit.Goals as goal

pub audit_by_number-requires-clause-none_dying : goal.audit_by_number-requires-clause-none_dying
audit_by_number-requires-clause-none_dying g c =
    let settled = c.settle-weights.ensures in
    quiet_dying c.settle-weights.new.seat.view.core
    (ap (λ (v : CoreView). v.notes) settled.same ∙ c.requires.free.notes) settled.quiet

pub returns-clause-settled : goal.returns-clause-settled
returns-clause-settled g c =
    let settled = c.settle-weights.ensures in
    has_settled g.P.Kind.PayloadKind.fits c.args.domain.now g.P.Kind.PayloadKind.weight
    c.settle-weights.result _ c.args.root.now c.settle-weights.new.seat c.audit_by_number.new.seat
    c.in_ok-audit.audit c.requires.free.notes c.requires.free.rest.owes_nothing settled.settles
    settled.same settled.quiet settled.rest.owes_nothing c.audit_by_number.ensures.stays
    c.in_ok-audit.ensures.found
