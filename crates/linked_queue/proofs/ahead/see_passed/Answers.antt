use Rattle.std.proofs.Common.{ap, ◌∙◌, refl}
use Rattle.queue_protocol.specs.plain_state.declared.act.EventPlace.TheVariants.{Cell}
use Rattle.slot_store.specs.core_events.declared.outcome.Outcome.TheVariants as outcome
use Rattle.part_calls.specs.Parts.{as_part, seen_by}
use Rattle.queue_protocol.specs.queue_law.Lessons.{passed_next}
use Rattle.linked_queue.proofs.Accepting.{kept_all}
use Rattle.linked_queue.proofs.Leavings.{leaves_all}
use Rattle.linked_queue.proofs.Looks.{looked, step_as, word_slot_of}
use Rattle.linked_queue.proofs.TailLooks.{passed_other, passed_ready}
use Rattle.linked_queue.proofs.ahead.see_passed.Goals as goal

pub look-requires-clause-deed : goal.look-requires-clause-deed
look-requires-clause-deed g c =
    passed_ready g.P.Kind.PayloadKind.fits (as_part g.P.Part.part c.args.domain.now) c.args.first
    (seen_by g.P.Part.seen c.args.seat.now) c.requires.first c.requires.passed c.args.tail
    c.requires.tail

pub look-requires-clause-accepted : goal.look-requires-clause-accepted
look-requires-clause-accepted g c =
    kept_all g.P.Part.seen g.P.Part.suits g.met.P.HasQueue.accepts
    c.args.domain.now.protocol c.args.seat.now.view.client passed_next (λ own after v a w. refl)

pub returns-in-Found-clause-looks : goal.returns-in-Found-clause-looks
returns-in-Found-clause-looks g c =
    let d = as_part g.P.Part.part c.args.domain.now in
    step_as d (Cell c.args.tail) (Cell d.protocol.tail) c.look.result _
    (seen_by g.P.Part.seen c.args.seat.now) (seen_by g.P.Part.seen c.look.new.seat)
    (ap Cell c.requires.tail)
    (c.in-Found.is ∙ word_slot_of c.in-Found.found c.held_as.result c.held_as.ensures)
    c.look.ensures.steps

pub returns-in-Found-clause-other : goal.returns-in-Found-clause-other
returns-in-Found-clause-other g c =
    let d = as_part g.P.Part.part c.args.domain.now in
    let before = seen_by g.P.Part.seen c.args.seat.now in
    let after = seen_by g.P.Part.seen c.look.new.seat in
    passed_other g.P.Kind.PayloadKind.fits d c.args.first before c.requires.first
    c.requires.passed after c.in-Found.found c.held_as.result c.held_as.ensures
    (step_as d (Cell c.args.tail) (Cell d.protocol.tail) c.look.result
    (outcome.Found c.in-Found.found) before after (ap Cell c.requires.tail) c.in-Found.is
    c.look.ensures.steps)

pub returns-in-Found-clause-leaves : goal.returns-in-Found-clause-leaves
returns-in-Found-clause-leaves g c =
    let d = as_part g.P.Part.part c.args.domain.now in
    let before = seen_by g.P.Part.seen c.args.seat.now in
    let after = seen_by g.P.Part.seen c.look.new.seat in
    let cell = Cell c.args.tail in
    let step = c.look.ensures.steps in
    let by = looked d cell c.in-Found.found before after
    (step_as d cell cell c.look.result (outcome.Found c.in-Found.found) before after refl
    c.in-Found.is step) in
    leaves_all before after _ by.core (λ s has. step.told.objects s has)
