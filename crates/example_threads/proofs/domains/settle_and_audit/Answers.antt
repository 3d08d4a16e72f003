use Rattle.std.proofs.Common.{ap, ◌∙◌}
use Rattle.std.proofs.lemmas.Result.{IfOk-weaker}
use Rattle.cdrc.specs.core_events.declared.view.CoreView.{CoreView}
use Rattle.cdrc.specs.core_events.Views.{note_of}
use Rattle.example_threads.proofs.Settled.{has_settled, none_settled, quiet_dying}
use Rattle.example_threads.proofs.domains.settle_and_audit.Goals as goal

pub audit_by_number-requires-clause-none_dying : goal.audit_by_number-requires-clause-none_dying
audit_by_number-requires-clause-none_dying g c =
    let settled = c.settle.new.seat.view.core in
    quiet_dying settled
    (none_settled c.args.root.now.view.core settled c.settle.ensures.same c.requires.free.none)
    c.settle.ensures.quiet

pub returns-clause-found : goal.returns-clause-found
returns-clause-found g c =
    IfOk-weaker c.audit_by_number.result _ _
    (λ found. has_settled g.P.Kind.PayloadKind.fits g.P.Kind.PayloadKind.weight _ c.args.root.now
    c.settle.new.seat c.audit_by_number.new.seat found _ c.requires.free.none c.settle.ensures.same
    c.settle.ensures.quiet c.audit_by_number.ensures.stays.1.core)
    c.audit_by_number.ensures.found

pub returns-clause-free : goal.returns-clause-free
returns-clause-free g c =
    let settled = c.settle.new.seat.view.core in
    let none = none_settled c.args.root.now.view.core settled c.settle.ensures.same
    c.requires.free.none in record {
      rest = c.audit_by_number.ensures.rest;
      none = λ j. ap (λ (v : CoreView). note_of v j) c.audit_by_number.ensures.stays.1.core ∙ none j;
      room = c.audit_by_number.ensures.room c.settle.ensures.room;
    }
