use Rattle.std.proofs.Common.{◌<◌, sym, ◌∙◌, subst}
use Rattle.law_lesson.specs.plain_state.declared.slot.SlotId.{SlotId}
use Rattle.law_lesson.specs.plain_state.Lists.{times}
use Rattle.domain_audit.specs.counted_handles.Handles.{Handle}
use Rattle.lane_domain.specs.weak_intern.Knowing.{KnowsRecord}
use Rattle.lane_reports.specs.Holders.{texts}
use Rattle.lane_reports.proofs.CountingHolders.{root_still}
use Rattle.lane_reports.proofs.Tells.{tells_text}
use Rattle.lane_reports.proofs.Finding.{gained, has_one, knows_back, leaves_back, leaves_drop, learns_same, of_some, quota_on}
use Rattle.lane_reports.proofs.records.find_held.Goals as goal

pub drop_strong-requires-clause-owned : goal.drop_strong-requires-clause-owned
drop_strong-requires-clause-owned g c =
    let first = gained c.args.root.now c.find.new.seat c.in_ok-found.field-0 c.in-Some.found
    c.in-Some.is c.in_ok-found.ensures.leaves in
    has_one c.in-Some.found.slot c.args.root.now c.find.new.seat first

pub returns-then-is_held-clause-held : goal.returns-then-is_held-clause-held
returns-then-is_held-clause-held g c = sym c.is_held.ensures ∙ c.if-is_held.true

pub returns-then-is_held-clause-tells : goal.returns-then-is_held-clause-tells
returns-then-is_held-clause-tells g c =
    let first = gained c.args.root.now c.find.new.seat c.in_ok-found.field-0 c.in-Some.found
    c.in-Some.is c.in_ok-found.ensures.leaves in
    let second = leaves_drop _ c.args.domain.now c.in-Some.found.slot c.find.new.seat
    c.drop_strong.new.seat c.drop_strong.ensures.dropped c.drop_strong.ensures.objects in
    let own = c.requires.held c.slot-slot.result (sym c.is_held.ensures ∙ c.if-is_held.true) in
    let known = subst (λ (s : SlotId). KnowsRecord texts c.args.word.now s c.drop_strong.new.seat)
    (sym c.slot-slot.ensures)
    (knows_back c.in-Some.found.slot c.args.root.now c.find.new.seat c.drop_strong.new.seat first
    second c.args.word.now c.drop_strong.ensures.client
    (subst (λ (s : SlotId). 0 < times s c.args.root.now.view.core.owned) c.slot-slot.ensures own)
    (of_some (λ (h : Handle). KnowsRecord texts c.args.word.now h.slot c.find.new.seat)
    c.in_ok-found.field-0 c.in-Some.found c.in-Some.is c.in_ok-found.ensures.knows)) in
    (known.0, known.1, tells_text c.slot-slot.result known.0 c.drop_strong.new.seat known.2)

pub returns-then-is_held-clause-leaves : goal.returns-then-is_held-clause-leaves
returns-then-is_held-clause-leaves g c =
    let first = gained c.args.root.now c.find.new.seat c.in_ok-found.field-0 c.in-Some.found
    c.in-Some.is c.in_ok-found.ensures.leaves in
    let second = leaves_drop _ c.args.domain.now c.in-Some.found.slot c.find.new.seat
    c.drop_strong.new.seat c.drop_strong.ensures.dropped c.drop_strong.ensures.objects in
    leaves_back c.in-Some.found.slot c.args.root.now c.find.new.seat c.drop_strong.new.seat first
    second

pub returns-then-is_held-clause-ready : goal.returns-then-is_held-clause-ready
returns-then-is_held-clause-ready g c =
    let first = gained c.args.root.now c.find.new.seat c.in_ok-found.field-0 c.in-Some.found
    c.in-Some.is c.in_ok-found.ensures.leaves in
    let second = leaves_drop _ c.args.domain.now c.in-Some.found.slot c.find.new.seat
    c.drop_strong.new.seat c.drop_strong.ensures.dropped c.drop_strong.ensures.objects in
    let both = leaves_back c.in-Some.found.slot c.args.root.now c.find.new.seat
    c.drop_strong.new.seat first second in
    root_still c.args.root.now c.drop_strong.new.seat c.requires.ready both
    (c.drop_strong.ensures.room c.in_ok-found.ensures.room) c.drop_strong.ensures.rest
    (quota_on c.args.root.now.view.client c.drop_strong.new.seat.view.client
    (learns_same c.args.root.now.view.client c.find.new.seat.view.client
    c.drop_strong.new.seat.view.client c.drop_strong.ensures.client c.in_ok-found.ensures.learns)
    c.requires.ready.quota)

pub returns-clause-leaves : goal.returns-clause-leaves
returns-clause-leaves g c =
    let first = gained c.args.root.now c.find.new.seat c.in_ok-found.field-0 c.in-Some.found
    c.in-Some.is c.in_ok-found.ensures.leaves in
    let second = leaves_drop _ c.args.domain.now c.in-Some.found.slot c.find.new.seat
    c.drop_strong.new.seat c.drop_strong.ensures.dropped c.drop_strong.ensures.objects in
    leaves_back c.in-Some.found.slot c.args.root.now c.find.new.seat c.drop_strong.new.seat first
    second

pub returns-clause-ready : goal.returns-clause-ready
returns-clause-ready g c =
    let first = gained c.args.root.now c.find.new.seat c.in_ok-found.field-0 c.in-Some.found
    c.in-Some.is c.in_ok-found.ensures.leaves in
    let second = leaves_drop _ c.args.domain.now c.in-Some.found.slot c.find.new.seat
    c.drop_strong.new.seat c.drop_strong.ensures.dropped c.drop_strong.ensures.objects in
    let both = leaves_back c.in-Some.found.slot c.args.root.now c.find.new.seat
    c.drop_strong.new.seat first second in
    root_still c.args.root.now c.drop_strong.new.seat c.requires.ready both
    (c.drop_strong.ensures.room c.in_ok-found.ensures.room) c.drop_strong.ensures.rest
    (quota_on c.args.root.now.view.client c.drop_strong.new.seat.view.client
    (learns_same c.args.root.now.view.client c.find.new.seat.view.client
    c.drop_strong.new.seat.view.client c.drop_strong.ensures.client c.in_ok-found.ensures.learns)
    c.requires.ready.quota)
