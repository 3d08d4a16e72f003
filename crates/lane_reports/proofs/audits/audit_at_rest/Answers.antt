use Rattle.std.proofs.Common.{refl, ap, ◌∙◌}
use Rattle.law_lesson.specs.plain_state.Lists.{times}
use Rattle.domain_audit.specs.core_events.declared.view.CoreView.{CoreView}
use Rattle.domain_audit.specs.core_events.Views.{snapshots}
use Rattle.lane_reports.proofs.Audited.{owned_both, owned_then}
use Rattle.lane_reports.proofs.Quiet.{quiet_dying, quiet_retired}
use Rattle.lane_reports.proofs.Trails.{alone_same, turn_alone}
use Rattle.lane_reports.proofs.audits.audit_at_rest.Goals as goal

pub loop-try-init : goal.loop-try-init
loop-try-init g c = record {
  rest = c.requires.rest;
  room = c.requires.room;
  alone = c.requires.alone;
  same = refl;
  objects = λ s some. refl;
  client = refl;
  trail = alone_same c.args.root.now.view.core c.args.root.now.view.core refl;
}

pub audit_settled-requires-clause-under_none : goal.audit_settled-requires-clause-under_none
audit_settled-requires-clause-under_none g c =
    ap snapshots c.settle-weights.ensures.same ∙ ap snapshots c.loop-try.invariant.same
    ∙ c.requires.under_none

pub audit_settled-requires-clause-weakly : goal.audit_settled-requires-clause-weakly
audit_settled-requires-clause-weakly g c s =
    ap (λ (v : CoreView). times s v.weaks) c.settle-weights.ensures.same
    ∙ ap (λ (v : CoreView). times s v.weaks) c.loop-try.invariant.same ∙ c.requires.weakly s

pub audit_settled-requires-clause-settled : goal.audit_settled-requires-clause-settled
audit_settled-requires-clause-settled g c =
    let none = ap snapshots c.settle-weights.ensures.same
    ∙ ap snapshots c.loop-try.invariant.same ∙ c.requires.under_none in
    let settled = c.settle-weights.new.seat.view.core in record {
      retired = quiet_retired settled c.settle-weights.ensures.quiet none;
      dying = quiet_dying settled c.settle-weights.ensures.quiet none;
    }

pub returns-in-Some-2-clause-objects : goal.returns-in-Some-2-clause-objects
returns-in-Some-2-clause-objects g c =
    let settle = c.settle-weights.ensures in
    owned_then c.args.root.now c.settle-weights.new.seat c.audit_settled.new.root
    (owned_then c.args.root.now c.loop-try.root c.settle-weights.new.seat
    c.loop-try.invariant.objects c.loop-try.invariant.same
    (owned_both c.loop-try.root c.settle-weights.new.seat settle.objects settle.same))
    (settle.same ∙ c.loop-try.invariant.same) c.audit_settled.ensures.objects

pub returns-in-Some-2-clause-trail : goal.returns-in-Some-2-clause-trail
returns-in-Some-2-clause-trail g c =
    turn_alone _ c.args.domain.now _ _ c.args.root.now c.loop-try.root c.settle-weights.new.seat
    c.audit_settled.new.root c.loop-try.invariant.trail c.settle-weights.ensures.settles
    c.audit_settled.ensures.trail

pub returns-in_err-found-clause-trail : goal.returns-in_err-found-clause-trail
returns-in_err-found-clause-trail g c =
    turn_alone _ c.args.domain.now _ _ c.args.root.now c.loop-try.root c.settle-weights.new.seat
    c.audit_settled.new.root c.loop-try.invariant.trail c.settle-weights.ensures.settles
    c.audit_settled.ensures.trail

pub loop-try-preserved : goal.loop-try-preserved
loop-try-preserved g c =
    let inv = c.loop-try.invariant in
    let settle = c.settle-weights.ensures in
    let audit = c.audit_settled.ensures in record {
      rest = audit.rest;
      room = audit.room;
      alone = audit.alone;
      same = audit.same ∙ settle.same ∙ inv.same;
      objects = owned_then c.args.root.now c.settle-weights.new.seat c.audit_settled.new.root
          (owned_then c.args.root.now c.loop-try.root c.settle-weights.new.seat inv.objects inv.same
          (owned_both c.loop-try.root c.settle-weights.new.seat settle.objects settle.same))
          (settle.same ∙ inv.same) audit.objects;
      client = audit.client ∙ settle.client ∙ inv.client;
      trail = turn_alone _ c.args.domain.now _ _ c.args.root.now c.loop-try.root
          c.settle-weights.new.seat c.audit_settled.new.root inv.trail settle.settles audit.trail;
    }
